-- Where the two runs part, after EP0's start with nothing under way: they are one run there, or the same but for the
-- bytes of the channel's slots
use Rattle.std.specs.Prelude.{Bool, true, false, List, [], ◌∷◌, ◌≡◌, refl, ℕ, zero, eqb}
use Rattle.std.proofs.Common.{true≢false, inl, inr, ap, subst, sym, ◌∙◌, eqb-true}
use Rattle.regs.specs.declared.Access.TheVariants.{Wait}
use Rattle.state.specs.Driver.{Driver}
use Rattle.script.specs.Answers.{Answer}
use Rattle.script.specs.Calls.{Config, start_row}
use Rattle.script.specs.Machine.{Buf, Pending, idle, busy}
use Rattle.machine.specs.Suspended.{driver_of}
use Rattle.answer.specs.Goes.{StepResult}
use Rattle.calls.specs.Sharing.{starting, time_after}
use Rattle.proof_book.specs.Sorting.{sorts_of}
use Rattle.proof_wake_ups.proofs.RoomsLaws.{room}
use Rattle.proof_isolation.specs.EqualExcept.{Channel, EqualExcept}
use Rattle.proof_isolation.specs.LikesLaws.{like-refl}
use Rattle.proof_isolation.specs.Schedule.{Run, Two, Parallel, gets_both, shares_both, first_of, second_of, run_by}
use Rattle.proof_isolation.specs.Schedule.{called, given}
use Rattle.proof_isolation.proofs.Standing.{At}
use Rattle.proof_isolation.proofs.UnreadLaws.{idle_same, busy_same, same_machine, SameCalled, same_called}
use Rattle.proof_isolation.proofs.UnreadLaws.{started_same, row_same}
use Rattle.proof_isolation.proofs.UnreadLaws.{SameRun, same_run, called_same, unfit_same, sharing_same}
use Rattle.proof_isolation.proofs.StartLaws.{anew, starts, Met, one_so_far, stands-idle}
use Rattle.proof_isolation.specs.Undisturbed.{Session, Unstarted, started_up, opened, SameOutside, LentBoth}
use Rattle.proof_isolation.specs.Undisturbed.{both_unfit, both_lent, Early, AlikeBefore}
use Rattle.proof_isolation.specs.Undisturbed.{one_list, own_bytes, Opens}

-- ---- the same calls before the end of EP0's start

unstarted : (w : Pending Answer Driver) (d : Driver) → Unstarted w d → w ≡ idle → eqb d.globals.stage 2 ≡ false
unstarted w d h e = by (eqb d.globals.stage 2) refl
  where
    by : (b : Bool) → eqb d.globals.stage 2 ≡ b → eqb d.globals.stage 2 ≡ false
    by true x = absurd (subst (λ w. Unstarted w d) e h (eqb-true d.globals.stage 2 x))
    by false x = x

module _ (share : Bool) (n : ℕ) (c : Channel) (d : Driver) where
  abbrev P : Buf → Buf → Type 0
  P b b' = SameOutside share n c d b b'

  -- two runs with the same driver, accesses and answers
  abbrev Twin : Run → Run → Type 0
  Twin r r' = SameRun P (λ b b' p. p.long) r r'

  given-same : (ps : List Parallel) (r r' : Run) → Twin r r' → Early share n c d ps r r'
      → Twin (given share n (first_of ps) r) (given share n (second_of ps) r')
  given-same [] r r' h m = h
  given-same (gets_both f b b' ∷ ps) r r' h m = given-same ps (called share n f b r) (called share n f b' r')
      (by m.1) m.2
    where
      by : LentBoth share n c d f b b' r r' → Twin (called share n f b r) (called share n f b' r')
      by (both_unfit x y) = unfit_same P (λ b b' p. p.long) share n f b b' h x y
      by (both_lent p) = called_same P (λ b b' p. p.long) share n f b b' h p
          (unstarted r.machine.under_way_lem r.machine.st m.0)
  given-same (shares_both g ∷ ps) r r' h m = given-same ps _ _ (sharing_same P (λ b b' p. p.long) share n g h) m

  fresh-same : (k : Config) (b b' : Buf) (t : List ℕ) {x x' : StepResult} → SameCalled P (λ b b' p. p.long) x x'
      → Twin (run_by (Wait 0) (x, time_after n starting x.0 (driver_of.fresh k) t))
      (run_by (Wait 0) (x', time_after n starting x'.0 (driver_of.fresh k) t))
  fresh-same k b b' t (same_called h) = same_run h

  anew-same : (k : Config) (b b' : Buf) (row : start_row k b ≡ zero) (row' : start_row k b' ≡ zero) (t : List ℕ) → P b b'
      → Twin (anew share n k b row t) (anew share n k b' row' t)
  anew-same k b b' row row' t p = fresh-same k b b' t (started_same P (λ b b' p. p.long) k zero
      (same_machine {d = driver_of.fresh k} idle_same p) p)

-- ---- where they part

abbrev is_idle : Pending Answer Driver → Bool
is_idle idle = true
is_idle (busy i a k) = false

module _ (share : Bool) (n : ℕ) (c : Channel) (d : Driver) where
  record Rested (z z' : Run) : Type 0 where
    under_way_lem : z'.machine.under_way_lem ≡ idle
    st : z'.machine.st ≡ z.machine.st
    answer : z.answer ≡ z'.answer
    time : z.time ≡ z'.time
    bytes : SameOutside share n c d z.machine.buf z'.machine.buf

  rested : {z z' : Run} → Twin share n c d z z' → z.machine.under_way_lem ≡ idle → Rested z z'
  rested (same_run (same_machine idle_same p)) e = record {
    under_way_lem = refl;
    st = refl;
    answer = refl;
    time
        = refl;
    bytes = p;
  }
  rested (same_run (same_machine (busy_same h) p)) e = absurd (true≢false (sym (ap is_idle e)))

module _ (share : Bool) (n : ℕ) (s : Session) (w : Two) (e : w.first.time ≡ w.second.time)
    (o : Opens share n s w) where
  abbrev z : Run
  z = (opened share n s w).first

  abbrev z' : Run
  z' = (opened share n s w).second

  pub record Parted : Type 0 where
    pub rests : z'.machine.under_way_lem ≡ idle
    pub stand : At s.channel (opened share n s w)

  met : Met share n s.config s.lent o.accepted s.channel z
  met = one_so_far share n s.config s.lent o.accepted (first_of s.before) w.first o.lawful o.rests
      o.stage s.channel o.sorts

  one : z ≡ z' → Parted
  one i = record {
    rests = subst (λ (z : Run). z.machine.under_way_lem ≡ idle) i o.rests;
    stand = subst (λ (y : Run). At s.channel (record { first = z; second = y; status = 0 })) i
        (stands-idle s.channel z z (like-refl met.lawful (room met.roomed.machine)) met.roomed
        met.roomed o.rests o.rests refl refl);
  }

  parted_by : AlikeBefore share n s.channel z.machine.st s.config s.lent s.lent' s.before
      (started_up share n s.config s.lent w.first) (started_up share n s.config s.lent' w.second)
      → Parted
  parted_by (one_list x y) = one (ap (given share n (first_of s.before))
      (starts share n s.config s.lent o.accepted w.first
      ∙ ap (λ t. anew share n s.config s.lent o.accepted t) e
      ∙ sym (starts share n s.config s.lent o.accepted w.second)
      ∙ ap (λ b. started_up share n s.config b w.second) (sym x))
      ∙ ap (λ es. given share n es (started_up share n s.config s.lent' w.second)) (sym y))
  parted_by (own_bytes x y l) =
      let c = s.channel in
      let row' = sym (row_same (SameOutside share n c z.machine.st) (λ b b' p. p.long) s.config s.lent
      s.lent' x) ∙ o.accepted in
      let u : Twin share n c z.machine.st (started_up share n s.config s.lent w.first)
      (started_up share n s.config s.lent' w.second) =
      subst (λ r. Twin share n c z.machine.st r (started_up share n s.config s.lent' w.second))
      (sym (starts share n s.config s.lent o.accepted w.first))
      (subst (λ r. Twin share n c z.machine.st (anew share n s.config s.lent o.accepted w.first.time)
      r)
      (ap (anew share n s.config s.lent' row') e ∙ sym (starts share n s.config s.lent' row' w.second))
      (anew-same share n c z.machine.st s.config s.lent s.lent' o.accepted row' w.first.time x)) in
      let q = rested share n c z.machine.st (given-same share n c z.machine.st s.before _ _ u y)
      o.rests in
      let m = one_so_far share n s.config s.lent' row' (second_of s.before) w.second l q.under_way_lem
      (ap (λ (d : Driver). d.globals.stage) q.st ∙ o.stage) c (o.sorts ∙ ap sorts_of (sym q.st)) in
      let k = like-refl {c = c} met.lawful (room met.roomed.machine) in
      record {
        rests = q.under_way_lem;
        stand = stands-idle c z z' (record {
          left = k.left;
          right = m.lawful;
          but = subst (λ d. EqualExcept c.number z.machine.st d) (sym q.st) k.but;
          bytes = record {
            long = q.bytes.long;
            below = λ i h. q.bytes.same i (inl h);
            above
                = λ i h. q.bytes.same i (inr h);
          };
        }) met.roomed m.roomed o.rests q.under_way_lem q.answer q.time;
      }

  pub parted : Parted
  parted = parted_by o.alike
