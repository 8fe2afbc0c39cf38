-- Laws on the definitions of Order.antt
use Rattle.std.specs.Prelude.{Bool, not, List, [], ◌∷◌, ◌++◌, ◌≡◌, ℕ, suc, ◌+◌, ◌*◌, ◌%◌, ◌<◌, eqb, length, get_or}
use Rattle.std.proofs.Math.Bool.{true, false, cond}
use Rattle.std.proofs.Math.Path.{refl, ap}
use Rattle.std.proofs.Common.{sym, subst, ◌∙◌, arith, eq-eqb, ne_eqb}
use Rattle.regs.specs.declared.Access.{Access}
use Rattle.regs.specs.declared.Access.TheVariants.{Write}
use Rattle.regs.specs.declared.Reg.TheVariants.{EpMaxLen}
use Rattle.regs.specs.declared.Dir.{Dir}
use Rattle.state.specs.declared.Allocator.{Allocator}
use Rattle.state.specs.Wakes.{Wakes, unwoken, listed}
use Rattle.state.specs.Driver.{Driver, ep_on, with_on, with_wakes, with_allocator, none_gathered}
use Rattle.alloc.specs.declared.Answer.{Answer}
use Rattle.alloc.specs.declared.Answer.TheVariants.{Refused, Given}
use Rattle.alloc.specs.Alloc.{is_iso, slots_of, allocate_of}
use Rattle.descriptor.specs.declared.Endpoint.{Endpoint}
use Rattle.descriptor.specs.declared.Answer as reading-answer
use Rattle.descriptor.specs.declared.Answer.TheVariants as reading
use Rattle.descriptor.specs.Reading.{reading_of, list_of}
use Rattle.descriptor.specs.Lists.{Good}
use Rattle.descriptor.specs.ListsLaws.{few}
use Rattle.descriptor.specs.ReadBackLaws.{accepted}
use Rattle.descriptor.specs.declared.preview.Trial.{Trial}
use Rattle.descriptor.specs.Trial.{direction_of, asked, trial_of}
use Rattle.descriptor.specs.OneByOne.{Run, all, stopped, goes, one_by_one_lem}
use Rattle.script.specs.Tree as tree
use Rattle.script.specs.Tree.{ends, asks, bind_out}
use Rattle.script.specs.Script.{run, dma}
use Rattle.script.specs.Answers as answers
use Rattle.script.specs.Answers.{End, operation}
use Rattle.script.specs.Driver.{allocated_as}
use Rattle.script.specs.AllocateAll as script
use Rattle.script.specs.AllocateAll.{allocate_read}
use Rattle.script.specs.Calls.{AllocateAll, other_code}
use Rattle.script_ops.specs.Records.{record_given, sets_given, given_to, allocated_on}
use Rattle.script_ops.specs.Rings.{St, place_on}
use Rattle.script_ops.specs.Concrete.{concrete, go}
use Rattle.driver.specs.Each.{one_on, each_on, announce_all}
use Rattle.driver.specs.EachLaws.{each-run}
use Rattle.proof_alloc_all.specs.Hands.{hands_out, ends_with, allocation, one_by_one, accesses}
use Rattle.proof_alloc_all.specs.Given.{gives, given-number, one-allocator, one-stage}
use Rattle.proof_alloc_all.specs.Settled.{Settled}
use Rattle.proof_alloc_all.specs.SettledLaws.{Owns, settled, owns, still, same_size, more}
use Rattle.proof_alloc_all.specs.Walk.{handed}
use Rattle.proof_alloc_all.specs.WalkLaws.{Chain, pair, placed, announce-hands, announce-ends, end_is, walk-hands}
use Rattle.proof_alloc_all.specs.Order.{Stepwise, InOrder}

-- ---- a list of which none is refused

data Accepts : Allocator → List Endpoint → Type 0 where
  done : (a : Allocator) → Accepts a []
  goes_on_lem : (a : Allocator) (e : Endpoint) (es : List Endpoint) (n x slots : ℕ)
      → (asked a e).answer ≡ Given n x slots → Accepts (asked a e).after es → Accepts a (e ∷ es)

accepts : {a b : Allocator} {es : List Endpoint} {ns : List ℕ} {buffers n : ℕ} → Run a es ns buffers n b → n ≡ 0
    → Accepts a es
accepts (all a) h = done a
accepts (stopped a e es n q l m) h = absurd (omega arith)
accepts (goes a e es k base slots q ns buffers n b r) h = goes_on_lem a e es k base slots q (accepts r h)

-- ---- wake-ups stand apart

owns-wakes : (d : Driver) (w : Wakes) (dir : Dir) (n kind maximum x : ℕ) → Owns d dir n kind maximum x
    → Owns (with_wakes d w) dir n kind maximum x
unfolding ep_on
owns-wakes d w dir n kind maximum x o = record {
  low = o.low;
  high = o.high;
  allocated = o.allocated;
  has_kind = o.has_kind;
  has_maximum = o.has_maximum;
  base = o.base;
  armed = o.armed;
  only = o.only;
}

pub settled-wakes : (d : Driver) (w : Wakes) → Settled d → Settled (with_wakes d w)
unfolding ep_on
settled-wakes d w s = record {
  sized = record {
    eps = s.sized.eps;
    lens = s.sized.lens;
    stamps = s.sized.stamps;
    paced = s.sized.paced;
    requests = s.sized.requests;
  };
  sound = s.sound;
  some = s.some;
  below = s.below;
}

chain-wakes : (es : List Endpoint) (d : Driver) (w : Wakes) (x : ℕ) → Chain d x es → Chain (with_wakes d w) x es
chain-wakes [] d w x c = tt
chain-wakes (e ∷ es) d w x c = (owns-wakes d w _ _ _ _ _ c.0, chain-wakes es d w _ c.1)

one-wakes : (d : Driver) (w : Wakes) (e : Endpoint) → one_on (with_wakes d w) e ≡ with_wakes (one_on d e) w
unfolding one_on allocated_on given_to sets_given record_given with_on ep_on
one-wakes d w e = go (allocate_of d.allocator e.kind e.address e.maximum (direction_of e.address)).answer
  where
    go : (z : Answer) → given_to (direction_of e.address) e.kind e.maximum e.interval z
        (with_allocator (with_wakes d w) (allocate_of d.allocator e.kind e.address e.maximum
        (direction_of e.address)).after)
        ≡ with_wakes
        (given_to (direction_of e.address) e.kind e.maximum e.interval z
        (with_allocator d (allocate_of d.allocator e.kind e.address e.maximum
        (direction_of e.address)).after)) w
    go (Refused n) = refl
    go (Given n x slots) = refl

each-wakes : (es : List Endpoint) (d : Driver) (w : Wakes) → each_on (with_wakes d w) es ≡ with_wakes (each_on d es) w
unfolding each_on
each-wakes [] d w = refl
each-wakes (e ∷ es) d w = ap (λ (z : Driver). each_on z es) (one-wakes d w e) ∙ each-wakes es (one_on d e) w

each-quiet : (es : List Endpoint) (d : Driver) → (each_on d es).wakes ≡ d.wakes
each-quiet es d = ap (λ (z : Driver). z.wakes) (each-wakes es d d.wakes)

-- ---- after all are allocated they lie one above the other

stays : (es : List Endpoint) (d : Driver) (dir : Dir) (m kind maximum y : ℕ)
    → Settled d → Accepts d.allocator es → Owns d dir m kind maximum y → Owns (each_on d es) dir m kind maximum y
unfolding each_on
stays [] d dir m kind maximum y s a o = o
stays (e ∷ es) d dir m kind maximum y s (goes_on_lem _ _ _ n x slots q r) o =
    stays es (one_on d e) dir m kind maximum y (settled d e n x slots q s)
    (subst (λ (z : Allocator). Accepts z es) (sym (one-allocator d e n x slots q)) r)
    (still d e n x slots q s dir m kind maximum y o)

all-size : (es : List Endpoint) (d : Driver) → Settled d → Accepts d.allocator es → (each_on d es).allocator.size
    ≡ d.allocator.size
unfolding each_on
all-size [] d s a = refl
all-size (e ∷ es) d s (goes_on_lem _ _ _ n x slots q r) =
    all-size es (one_on d e) (settled d e n x slots q s)
    (subst (λ (z : Allocator). Accepts z es) (sym (one-allocator d e n x slots q)) r) ∙ same_size d e n x slots q s

chain : (es : List Endpoint) (d : Driver) → Settled d → Accepts d.allocator es → Good es
    → Chain (each_on d es) (d.allocator.next * d.allocator.size) es
unfolding each_on Good
chain [] d s a g = tt
chain (e ∷ es) d s (goes_on_lem _ _ _ n x slots q r) g =
    let d1 = one_on d e in
    let t = settled d e n x slots q s in
    let r1 = subst (λ (z : Allocator). Accepts z es) (sym (one-allocator d e n x slots q)) r in
    let v = gives d.allocator e n x slots q in
    let o = stays es d1 (direction_of e.address) n e.kind e.maximum x t r1 (owns d e n x slots q s) in
    let z : d1.allocator.next * d1.allocator.size ≡ d.allocator.next
    * d.allocator.size + slots_of (is_iso e.kind) (direction_of e.address) * (each_on d1 es).allocator.size =
    sym (more d e n x slots q s) ∙ rw (all-size es d1 t r1, same_size d e n x slots q s, v.starts, v.slots) in (
      subst (λ (m : ℕ). Owns (each_on d1 es) (direction_of e.address) m e.kind e.maximum
          (d.allocator.next * d.allocator.size))
          (given-number d.allocator e n x slots q g.0.address)
          (subst (λ (y : ℕ). Owns (each_on d1 es) (direction_of e.address) n e.kind e.maximum y) v.starts o),
      subst (λ (y : ℕ). Chain (each_on d1 es) y es) z (chain es d1 t r1 g.2),
    )

-- ---- one endpoint by its own call

module _ (d : Driver) (b : List ℕ) (e : Endpoint) (n x slots : ℕ)
    (q : (asked d.allocator e).answer ≡ Given n x slots) (s : Settled d) (stage : d.globals.stage ≡ 1) where
  abbrev lastly : ℕ → St → tree.Out St answers.Answer
  lastly k u = ends (End k (listed u.0.wakes)) u

  abbrev buffer : Bool → ℕ × Driver → tree.Out St Unit
  buffer c p = cond c (asks (dma (direction_of e.address) n p.0) (p.1, b) (λ _ u. ends tt u))
      (ends tt (none_gathered (one_on d e), b))

  abbrev tail : Bool → ℕ × Driver → tree.Out St answers.Answer
  tail c p = bind_out (bind_out (buffer c p) (λ _ u. ends n u)) lastly

  abbrev as_answered : Answer → tree.Out St answers.Answer
  as_answered z = run {i = false} concrete (allocated_as (direction_of e.address) e.kind e.maximum z)
      (one_on d e, b)

  runs : run concrete (allocation e) (d, b) ≡ as_answered (Given n x slots)
  unfolding one_on asked
  runs =
      ap (λ (t : Bool). cond t (as_answered (allocate_of d.allocator e.kind e.address e.maximum
      (direction_of e.address)).answer)
      (ends (answers.Refused 4) (d, b))) (eq-eqb d.globals.stage 1 stage)
      ∙ ap as_answered q

  place_is : place_on (direction_of e.address) n (none_gathered (one_on d e)) ≡ pair x (none_gathered (one_on d e))
  place_is =
      let o = owns-wakes (one_on d e) (unwoken (one_on d e).wakes) (direction_of e.address) n e.kind e.maximum x
      (owns d e n x slots q s) in
      placed (none_gathered (one_on d e)) (direction_of e.address) n x o.base o.armed

  tail-hands : (c : Bool) → hands_out (tail c (pair x (none_gathered (one_on d e))))
      ≡ cond c (dma (direction_of e.address) n x ∷ []) []
  tail-hands true = refl
  tail-hands false = refl

  tail-ends : (c : Bool) → ends_with (tail c (pair x (none_gathered (one_on d e))))
      ≡ (End n [], (none_gathered (one_on d e), b))
  unfolding listed
  tail-ends true = refl
  tail-ends false = refl

  one-hands : hands_out (run concrete (allocation e) (d, b))
      ≡ accesses (direction_of e.address) n e.kind e.maximum x
  one-hands =
      ap hands_out runs
      ∙ ap (λ (p : ℕ × Driver). Write EpMaxLen n e.maximum ∷ hands_out (tail (not (eqb (e.kind % 4) 0)) p)) place_is
      ∙ ap (λ (l : List Access). Write EpMaxLen n e.maximum ∷ l) (tail-hands (not (eqb (e.kind % 4) 0)))

  pub one-ends : ends_with (run concrete (allocation e) (d, b)) ≡ (End n [], (none_gathered (one_on d e), b))
  one-ends =
      ap ends_with runs
      ∙ ap (λ (p : ℕ × Driver). ends_with (tail (not (eqb (e.kind % 4) 0)) p)) place_is
      ∙ tail-ends (not (eqb (e.kind % 4) 0))

stepwise : (es : List Endpoint) (d : Driver) (b : List ℕ) → Settled d → d.globals.stage ≡ 1
    → Accepts d.allocator es → Good es → Stepwise es d b
unfolding one_by_one each_on Good
stepwise [] d b s stage a g = record { hands = refl; state = refl; bytes = refl }
stepwise (e ∷ es) d b s stage (goes_on_lem _ _ _ n x slots q r) g =
    let d2 = none_gathered (one_on d e) in
    let t = settled-wakes (one_on d e) (unwoken (one_on d e).wakes) (settled d e n x slots q s) in
    let r1 = subst (λ (z : Allocator). Accepts z es) (sym (one-allocator d e n x slots q)) r in
    let v = gives d.allocator e n x slots q in
    let m = given-number d.allocator e n x slots q g.0.address in
    let i = stepwise es d2 b t (one-stage d e n x slots q ∙ stage) r1 g.2 in
    let w = ap (λ (z : answers.Answer × St). z.1) (one-ends d b e n x slots q s stage) in
    let y : d2.allocator.next * d2.allocator.size ≡ d.allocator.next
    * d.allocator.size + slots_of (is_iso e.kind) (direction_of e.address) * d.allocator.size =
    sym (more d e n x slots q s) ∙ rw (v.starts, v.slots) in
    record {
      hands =
          ap (λ (z : St). hands_out (run concrete (allocation e) (d, b)) ++ (one_by_one es z).0) w
          ∙ ap (λ (l : List Access). l ++ (one_by_one es (d2, b)).0) (one-hands d b e n x slots q s stage)
          ∙ ap (λ (l : List Access). accesses (direction_of e.address) n e.kind e.maximum x ++ l)
          (i.hands ∙ ap (λ (z : ℕ). handed z (d2.allocator.next * d2.allocator.size) es)
          (same_size d e n x slots q s)
          ∙ ap (λ (z : ℕ). handed d.allocator.size z es) y)
          ∙ ap (λ (z : ℕ). accesses (direction_of e.address) z e.kind e.maximum x ++ handed d.allocator.size
          (d.allocator.next * d.allocator.size + slots_of (is_iso e.kind) (direction_of e.address)
          * d.allocator.size) es) m
          ∙ ap (λ (z : ℕ). accesses (direction_of e.address) (e.address % 128) e.kind e.maximum z
          ++ handed d.allocator.size
          (d.allocator.next * d.allocator.size + slots_of (is_iso e.kind) (direction_of e.address)
          * d.allocator.size) es) v.starts;
      state = ap (λ (z : St). none_gathered (one_by_one es z).1.0) w ∙ i.state
          ∙ ap none_gathered (each-wakes es (one_on d e) (unwoken (one_on d e).wakes))
          ∙ ap (λ (z : Wakes). with_wakes (each_on (one_on d e) es) (unwoken z)) (sym (each-quiet es (one_on d e)));
      bytes = ap (λ (z : St). (one_by_one es z).1.1) w ∙ i.bytes;
    }

-- ---- as one operation

abbrev finishing : ℕ → St → tree.Out St answers.Answer
finishing k u = ends (End k (listed u.0.wakes)) u

finish-hands : (o : tree.Out St ℕ) → hands_out (bind_out o finishing) ≡ hands_out o
finish-hands (ends n s) = refl
finish-hands (asks q s k) = ap (λ (l : List Access). q ∷ l) (finish-hands (k 0 s))

finish-ends : (o : tree.Out St ℕ) → ends_with (bind_out o finishing)
    ≡ (End (ends_with o).0 (listed (ends_with o).1.0.wakes), (ends_with o).1)
finish-ends (ends n s) = refl
finish-ends (asks q s k) = finish-ends (k 0 s)

all-hands : (es : List Endpoint) (d : Driver) (b : List ℕ) (x : ℕ) → Chain d x es
    → (hands_out (go (announce_all es) d b) ≡ handed d.allocator.size x es)
    × (ends_with (go (announce_all es) d b) ≡ (length es, (d, b)))
all-hands [] d b x c = (refl, refl)
all-hands (e ∷ es) d b x c =
    let dir = direction_of e.address in
    let m = e.address % 128 in
    let r = walk-hands es (suc (length es)) d b dir m (x + slots_of (is_iso e.kind) dir * d.allocator.size)
    (end_is (length es) (suc (length es)) d b dir m e.kind e.maximum x c.0) c.1 in (
      announce-hands (length es) (suc (length es)) d b dir m e.kind e.maximum x c.0
          ∙ ap (λ (l : List Access). accesses dir m e.kind e.maximum x ++ l) r.0,
      announce-ends (length es) (suc (length es)) d b dir m e.kind e.maximum x c.0 ∙ r.1,
    )

pub in_order_lem : (d : Driver) (b bytes : List ℕ) → Settled d → d.globals.stage ≡ 1 → ((j : ℕ) → get_or bytes j 0 < 256)
    → (reading_of bytes).answer ≡ reading.Listed
    → (trial_of d.allocator (list_of bytes)).refusal ≡ 0 → InOrder d b bytes
unfolding listed
in_order_lem d b bytes s stage small reads given =
    let es = list_of bytes in
    let g = (accepted bytes small reads).good in
    let o = one_by_one_lem d.allocator es (few es g) in
    let a = accepts o.run (sym (ap (λ (t : Trial). t.refusal) o.trial) ∙ given) in
    let D = none_gathered (each_on d es) in
    let c = chain-wakes es (each_on d es) (unwoken (each_on d es).wakes) (d.allocator.next * d.allocator.size)
    (chain es d s a g) in
    let h = all-hands es D b (d.allocator.next * d.allocator.size) c in
    let z = stepwise es d b s stage a g in
    let r : run concrete (other_code (AllocateAll bytes)) (d, b) ≡ bind_out (go (announce_all es) D b) finishing =
    ap (λ (t : Bool). cond t (run {i = false} concrete (allocate_read bytes (reading_of bytes).answer) (d, b))
    (ends (answers.Refused 4) (d, b)))
    (eq-eqb d.globals.stage 1 stage)
    ∙ ap (λ (y : reading-answer.Answer). run {i = false} concrete (allocate_read bytes y) (d, b)) reads
    ∙ ap (λ (t : Bool). cond t
    (bind_out (go (script.allocate_each {i = false} es) d b)
    (λ _ u. run {i = false} concrete (operation (announce_all es)) u))
    (ends (answers.Refused (trial_of d.allocator es).refusal) (d, b)))
    (eq-eqb (trial_of d.allocator es).refusal 0 given)
    ∙ ap (λ (y : tree.Out St Unit). bind_out y (λ _ u. run {i = false} concrete (operation (announce_all es)) u))
    (each-run es d b) in
    record {
      hands = ap hands_out r ∙ finish-hands (go (announce_all es) D b) ∙ h.0
          ∙ ap (λ (y : ℕ). handed y (d.allocator.next * d.allocator.size) es) (all-size es d s a) ∙ sym z.hands;
      ends_so = ap ends_with r ∙ finish-ends (go (announce_all es) D b)
          ∙ ap (λ (y : ℕ × St). (End y.0 (listed y.1.0.wakes), y.1)) h.1
          ∙ ap (λ (y : Driver). (End (length es) [], (y, b))) (sym z.state);
    }

-- ---- refused

-- by the refusal of the first endpoint that would be refused: nothing is handed out, nothing changes
pub none_given : (d : Driver) (b bytes : List ℕ) (n : ℕ) → d.globals.stage ≡ 1 → (reading_of bytes).answer
    ≡ reading.Listed
    → (trial_of d.allocator (list_of bytes)).refusal ≡ n → (n ≡ 0 → ⊥)
    → run concrete (other_code (AllocateAll bytes)) (d, b) ≡ ends (answers.Refused n) (d, b)
none_given d b bytes n stage listed refused some =
    let es = list_of bytes in
    ap (λ (t : Bool). cond t (run {i = false} concrete (allocate_read bytes (reading_of bytes).answer) (d, b))
    (ends (answers.Refused 4) (d, b)))
    (eq-eqb d.globals.stage 1 stage)
    ∙ ap (λ (y : reading-answer.Answer). run {i = false} concrete (allocate_read bytes y) (d, b)) listed
    ∙ ap (λ (k : ℕ). cond (eqb k 0) (bind_out (go (script.allocate_each {i = false} es) d b)
    (λ _ u. run {i = false} concrete (operation (announce_all es)) u)) (ends (answers.Refused k) (d, b))) refused
    ∙ rw (ne_eqb n 0 some)

-- by 17 or 18
pub unread : (d : Driver) (b bytes : List ℕ) (n : ℕ) → d.globals.stage ≡ 1 → (reading_of bytes).answer
    ≡ reading.Refused n
    → run concrete (other_code (AllocateAll bytes)) (d, b) ≡ ends (answers.Refused n) (d, b)
unread d b bytes n stage refused =
    ap (λ (t : Bool). cond t (run {i = false} concrete (allocate_read bytes (reading_of bytes).answer) (d, b))
    (ends (answers.Refused 4) (d, b)))
    (eq-eqb d.globals.stage 1 stage)
    ∙ ap (λ (y : reading-answer.Answer). run {i = false} concrete (allocate_read bytes y) (d, b)) refused
