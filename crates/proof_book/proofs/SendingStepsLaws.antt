-- What the book's operations make of a packet that is being sent on an isochronous IN, over the scripts of all calls:
-- it is being sent still, from the same slot, or the tail has passed it, or the endpoint's page is empty
use Rattle.std.specs.Prelude.{Bool, true, false, cond, ◌&&◌, List, [], ◌∷◌, ◌⊎◌, ◌≡◌, refl, ℕ, zero, suc, ◌+◌, ◌*◌, ◌%◌, eqb, leb, ltb, length}
use Rattle.std.proofs.Common.{inl, inr, ap, ap₂, subst, sym, ◌∙◌, arith, length-append}
use Rattle.regs.specs.declared.Access.{Access}
use Rattle.regs.specs.declared.Access.TheVariants.{Read, Write, Transmit, Wait, Callback}
use Rattle.regs.specs.declared.Reg.TheVariants.{EpTLen}
use Rattle.regs.specs.declared.Dir.{Dir}
use Rattle.regs.specs.declared.Dir.TheVariants.{Out, In}
use Rattle.state.specs.declared.Allocator.{Allocator}
use Rattle.state.specs.Wakes.{wake_code}
use Rattle.alloc.specs.declared.Answer as alloc-answer
use Rattle.alloc.specs.declared.Answer.TheVariants as alloc
use Rattle.alloc.specs.declared.Allocation.{Allocation}
use Rattle.alloc.specs.Alloc.{if, refused, allocate_of, allocate_ep0_of, with_next}
use Rattle.alloc.specs.Outcome.{Outcome, six, seven, eight, given}
use Rattle.alloc.proofs.OutcomeLaws.{outcome}
use Rattle.ring.specs.Copies.{copied}
use Rattle.script.specs.Tree as tree
use Rattle.script.specs.Tree.{ends, asks, bind_out}
use Rattle.script.specs.Cells.{EpCore, Cell, Val, globals-cell, control-cell, allocator-cell, ep-cell, request-cell}
use Rattle.script.specs.Cells.{paced_cell}
use Rattle.script.specs.Script.{Script, bind, look, write, next_len_lem, run, rows, Act, complete, reset_ring, set_enabled_lem}
use Rattle.script.specs.Script.{fill, fill0, open_oldest}
use Rattle.script.specs.Script.{close_oldest, take_oldest, enqueue, allocate, allocate0, no_wakes, waken, DmaStep}
use Rattle.script.specs.Script.{arrive, send, place, place0, Burst, switch, bus_reset_lem, last_of}
use Rattle.script.specs.Statics.{wake}
use Rattle.script.specs.Machine.{Buf}
use Rattle.proof_book.specs.Pages.{InPage, Pages, with_in, with_kept, kept_allocator, kept_plain}
use Rattle.proof_book.specs.Book.{Bk, some, merged_plain, shaped_plain, empty_in, passed_in, sent_in}
use Rattle.proof_book.specs.Book.{placed_in, loaded_in, queued_in, room_b, put_b, act_b, hand_b, row_b, iso_of, iso_out}
use Rattle.proof_book.specs.Book.{receiving, waits_on, given_b, started_b, switch_b, bus_reset_b, book_ops}
use Rattle.proof_book.specs.FrameLaws.{at-elim}
use Rattle.proof_book.specs.FrontPage.{EmptiedIn, slot_size}
use Rattle.proof_book.specs.BookTracksLaws.{Tracks, end, ask, earlier, tracks_bind}
use Rattle.proof_book.specs.InterruptPartsLaws.{Parts, p_ret, p_bind, p_test, p_read, p_write, p_wait, p_callback}
use Rattle.proof_book.specs.InterruptPartsLaws.{p_get}
use Rattle.proof_book.specs.InterruptPartsLaws.{p_put, p_is, p_look, p_fetch, p_load, p_no_wakes, p_waken}
use Rattle.proof_book.specs.InterruptPartsLaws.{p_arrive}
use Rattle.proof_book.specs.ReleasesLaws.{suits, InRows, r_ret, r_bind, r_test, r_read, r_write, r_wait}
use Rattle.proof_book.specs.ReleasesLaws.{r_callback}
use Rattle.proof_book.specs.ReleasesLaws.{r_get, r_put, r_is, r_look, r_fetch, r_act, r_hand, r_row}
use Rattle.proof_book.specs.SendingPagesLaws.{Orderly, Turns, Unsent, Either, turns-refl, weaker, passed-turns}
use Rattle.proof_book.specs.SendingPagesLaws.{none_left, empty-turns, placed-turns, loaded-turns, Follows}
use Rattle.proof_book.specs.SendingPagesLaws.{follows_then}
use Rattle.proof_book.specs.SendingPagesLaws.{Done, done-weaker, NoInPageChange, calm, calm-or, calm-orderly}
use Rattle.proof_book.specs.SendingPagesLaws.{calm_done}
use Rattle.proof_book.specs.SendingPagesLaws.{orderly-with, with-page, never}

-- ---- the operations

puts : (c : Cell) (v : Val c) (s : Bk) → Orderly s.0 → NoInPageChange s.0 (put_b c v s).0
puts globals-cell v s i = record { ins = λ e. refl; base = λ e. refl; size = refl }
puts control-cell v s i = record { ins = λ e. refl; base = λ e. refl; size = refl }
puts allocator-cell v s i = calm
puts (ep-cell Out f) v s i = record { ins = λ e. refl; base = λ e. refl; size = refl }
puts (ep-cell In f) v s i =
    let k = s.0.kept.plain In in
    record {
      ins = λ e. refl;
      base = λ e. at-elim (λ (p : EpCore). p.base ≡ (k e).base) f e (merged_plain (k f) v) k (λ m. i.bases f e (sym m))
          (λ _. refl);
      size = refl;
    }
puts (request-cell d f) v s i = record { ins = λ e. refl; base = λ e. refl; size = refl }
puts (paced_cell f) v s i = record { ins = λ e. refl; base = λ e. refl; size = refl }

-- an allocation leaves the buffers' size
given-size : {a : Allocator} {kind address maximum : ℕ} {dir : Dir} (z : Allocation)
    → Outcome a kind address maximum dir z → z.after.size ≡ a.size
given-size z (six h) = refl
given-size z (seven h n) = refl
given-size z (eight e h n l) = refl
given-size z (given e base n b h k g) = g.number.same_size

abbrev ep0_given : Allocator → Allocation
ep0_given a = record { answer = alloc.Given 0 (a.next * a.size) 1; after = with_next a (a.next + 1) }

started-size : (a : Allocator) (maximum : ℕ) → (allocate_ep0_of a maximum).after.size ≡ a.size
unfolding allocate_ep0_of with_next
started-size a maximum = by (eqb maximum 64) (ltb a.size maximum) (leb a.count a.next)
  where
    by : (x y z : Bool) → (if x (if y (refused 6 a) (if z (refused 8 a) (ep0_given a))) (refused 22 a)).after.size
        ≡ a.size
    by false y z = refl
    by true true z = refl
    by true false true = refl
    by true false false = refl

-- an IN that is allocated
module _ (t : Pages) (f : ℕ) (v : EpCore) (i : Orderly t) where
  abbrev shaped : Pages
  shaped = with_in (with_kept t (kept_plain t.kept In f v)) f empty_in

  shaped-done : Done Unsent t shaped
  shaped-done = record {
    orderly = record {
      periodic = λ x y m. ap₂ (λ (k : ℕ) (q : InPage). cond (eqb k (f % 16)) empty_in q) m (i.periodic x y m);
      bases = λ x y m. by_number_lem x y m (eqb (x % 16) (f % 16)) refl;
      loads = λ e. at-elim (λ (q : InPage). q.load ≡ true → q.sending ≡ true) f e empty_in t.ins (λ _ h. h)
          (λ _. i.loads e);
    };
    follows = record {
      size = refl;
      base = λ e. by-page e (eqb (e % 16) (f % 16));
      pages = λ e. at-elim (λ (q : InPage). Turns Unsent (t.ins e) q) f e empty_in t.ins (λ _. empty-turns)
          (λ _. turns-refl);
    };
  }
    where
      k : ℕ → EpCore
      k = t.kept.plain In

      by_number_lem : (x y : ℕ) → x % 16 ≡ y % 16 → (u : Bool) → eqb (x % 16) (f % 16) ≡ u
          → (cond (eqb (x % 16) (f % 16)) v (k x)).base ≡ (cond (eqb (y % 16) (f % 16)) v (k y)).base
      by_number_lem x y m true h =
          let g : eqb (y % 16) (f % 16) ≡ true = ap (λ (n : ℕ). eqb n (f % 16)) (sym m) ∙ h in
          ap (λ (u : Bool). (cond u v (k x)).base) h ∙ sym (ap (λ (u : Bool). (cond u v (k y)).base) g)
      by_number_lem x y m false h =
          let g : eqb (y % 16) (f % 16) ≡ false = ap (λ (n : ℕ). eqb n (f % 16)) (sym m) ∙ h in
          ap (λ (u : Bool). (cond u v (k x)).base) h ∙ i.bases x y m ∙ sym (ap (λ (u : Bool). (cond u v (k y)).base) g)

      by-page : (e : ℕ) (u : Bool) → ((cond u v (k e)).base ≡ (k e).base) ⊎ EmptiedIn (cond u empty_in (t.ins e))
      by-page e true = inr none_left
      by-page e false = inl refl

given-done : (d : Dir) (kind maximum interval : ℕ) (z : alloc-answer.Answer) (t : Pages) → Orderly t
    → Done Unsent t (given_b d kind maximum interval z t)
given-done d kind maximum interval (alloc.Refused n) t i = calm_done i calm
given-done Out kind maximum interval (alloc.Given f base slots) t i
    = calm_done i (record { ins = λ e. refl; base = λ e. refl; size = refl })
given-done In kind maximum interval (alloc.Given f base slots) t i =
    let z = shaped-done t f (shaped_plain (t.kept.plain In f) kind maximum base) i in
    record {
      orderly = record { periodic = z.orderly.periodic; bases = z.orderly.bases; loads = z.orderly.loads };
      follows = record { size = refl; base = z.follows.base; pages = z.follows.pages };
    }

-- with another allocator of the same size
resized : {t t' : Pages} {a : Allocator} → a.size ≡ slot_size t
    → Done Unsent (with_kept t (kept_allocator t.kept a)) t' → Done Unsent t t'
resized h k = record {
  orderly = k.orderly;
  follows = record {
    size = k.follows.size ∙ h;
    base
        = k.follows.base;
    pages = k.follows.pages;
  };
}

onto : {t : Pages} (a : Allocator) → Orderly t → Orderly (with_kept t (kept_allocator t.kept a))
onto a i = record { periodic = i.periodic; bases = i.bases; loads = i.loads }

begun-calm : (maximum : ℕ) (z : alloc-answer.Answer) (t x : Pages) → NoInPageChange t x
    → NoInPageChange t (started_b maximum z x)
begun-calm maximum (alloc.Refused n) t x c = c
begun-calm maximum (alloc.Given e base slots) t x c = record { ins = c.ins; base = c.base; size = c.size }

-- where the slot of the first of those waiting lies
abbrev pub spot : Pages → ℕ → ℕ
spot t e = (t.kept.plain In e).base + (((t.ins e).turn + length (t.ins e).waiting) % 2) * slot_size t

-- the packet being sent on IN e is being sent still, from the same slot
pub record Goes (e : ℕ) (t t' : Pages) : Type 0 where
  pub sending : (t'.ins e).sending ≡ true
  pub shown : (t'.ins e).shown ≡ (t.ins e).shown
  pub place : spot t' e ≡ spot t e
  pub size : slot_size t' ≡ slot_size t

-- on every IN
abbrev pub Stays : Pages → Pages → Type 0
Stays t t' = (e : ℕ) → (t.ins e).sending ≡ true → Goes e t t'

stays_then : {s t u : Pages} → Stays s t → Stays t u → Stays s u
stays_then h k e s =
    let x = h e s in
    let y = k e x.sending in
    record { sending = y.sending; shown = y.shown ∙ x.shown; place = y.place ∙ x.place; size = y.size ∙ x.size }

calm-stays : {t t' : Pages} → NoInPageChange t t' → Stays t t'
calm-stays c e s = record {
  sending = ap (λ (p : InPage). p.sending) (c.ins e) ∙ s;
  shown = ap (λ (p : InPage). p.shown) (c.ins e);
  place = rw (c.ins e, c.base e, c.size) refl;
  size = c.size;
}

-- a packet that is queued
module _ (t : Pages) (i : Orderly t) (f : ℕ) (bytes : List ℕ) where
  abbrev InPlace : InPage → InPage → Type 0
  InPlace p q = p.sending ≡ true → (q.sending ≡ true) × (q.shown ≡ p.shown)
      × ((q.turn + length q.waiting) % 2 ≡ (p.turn + length p.waiting) % 2)

  queued-page : (p : InPage) → InPlace p (queued_in p bytes)
  queued-page p s = (s, refl, omega (arith, length-append p.waiting (bytes ∷ [])))

  queued-stays : Stays t (with_in t f (queued_in (t.ins f) bytes))
  queued-stays e s =
      let z = at-elim (λ (p : InPage). InPlace (t.ins e) p) f e (queued_in (t.ins f) bytes) t.ins
      (λ m. subst (λ (p : InPage). InPlace p (queued_in (t.ins f) bytes)) (i.periodic f e (sym m))
      (queued-page (t.ins f))) (λ _ s. (s, refl, refl)) s in
      record {
        sending = z.0;
        shown = z.1;
        place = ap (λ (n : ℕ). (t.kept.plain In e).base + n * slot_size t) z.2;
        size = refl;
      }

-- in a script that may queue packets all of it stays; in another one it goes as above
abbrev pub Within : Bool → Pages → Pages → Type 0
Within true t t' = Stays t t'
Within false t t' = Follows Unsent t t'

abbrev pub Asked : Bool → Pages → Pages → Type 0
Asked true t t' = Stays t t'
Asked false t t' = Follows Either t t'

record SendingStep (u : Bool) (t t' : Pages) : Type 0 where
  orderly : Orderly t'
  within : Within u t t'

calm_step : (u : Bool) {t t' : Pages} → Orderly t → NoInPageChange t t' → SendingStep u t t'
calm_step true i c = record { orderly = calm-orderly i c; within = calm-stays c }
calm_step false i c = record { orderly = calm-orderly i c; within = (calm_done i c).follows }

done-step : {t t' : Pages} → Done Unsent t t' → SendingStep false t t'
done-step h = record { orderly = h.orderly; within = h.follows }

room-step : (t : Pages) → Orderly t → (f : ℕ) (bytes : List ℕ) (v : Bool) (b b' : Buf)
    → SendingStep true t (cond {A = Bk} v (with_in t f (queued_in (t.ins f) bytes), b') (t, b)).0
room-step t i f bytes true b b' = record {
  orderly = orderly-with t f (queued_in (t.ins f) bytes) (i.loads f) i;
  within
      = queued-stays t i f bytes;
}
room-step t i f bytes false b b' = calm_step true i calm

acts : (u : Bool) (q : Act) → suits u q ≡ true → (s : Bk) → Orderly s.0 → SendingStep u s.0 (act_b q s).0
acts true (complete f) h s i = never h
acts false (complete f) h s i = done-step (with-page (λ p. turns-refl) s.0 f (passed_in (s.0.ins f)) never
    (passed-turns (s.0.ins f)) i)
acts true (reset_ring d f) h s i = never h
acts false (reset_ring Out f) h s i = calm_step false i
    (calm-or (iso_of s.0 Out f) calm (record { ins = λ e. refl; base = λ e. refl; size = refl }))
acts false (reset_ring In f) h s i = done-step (with-page (λ p. turns-refl) s.0 f empty_in never empty-turns i)
acts u (set_enabled_lem d f onn) h s i = calm_step u i (calm-or (iso_out s.0 d f) calm
    (record { ins = λ e. refl; base = λ e. refl; size = refl }))
acts u (fill f bytes) h s i = calm_step u i calm
acts u (fill0 bytes) h s i = calm_step u i calm
acts u (open_oldest f) h s i = calm_step u i (calm-or (some (waits_on s.0 Out f))
    (record { ins = λ e. refl; base = λ e. refl; size = refl }) calm)
acts u (close_oldest f) h s i = calm_step u i (calm-or (s.0.outs f).opened
    (record { ins = λ e. refl; base = λ e. refl; size = refl }) calm)
acts u (take_oldest f) h s i = calm_step u i (calm-or (some (waits_on s.0 Out f))
    (record { ins = λ e. refl; base = λ e. refl; size = refl }) calm)
acts true (enqueue f bytes) h s i =
    let to = (s.0.kept.plain In f).base + (s.0.ins f).turn * s.0.kept.allocator.size in
    room-step s.0 i f bytes (room_b s.0 f (length bytes)) s.1 (copied s.1 to bytes)
acts false (enqueue f bytes) h s i = never h
acts true (allocate d kind address maximum interval) h s i = never h
acts false (allocate d kind address maximum interval) h s i =
    let z = allocate_of s.0.kept.allocator kind address maximum d in
    done-step (resized (given-size z (outcome s.0.kept.allocator kind address maximum d))
    (given-done d kind maximum interval z.answer _ (onto z.after i)))
acts u (allocate0 maximum) h s i =
    let z = allocate_ep0_of s.0.kept.allocator maximum in
    calm_step u i (begun-calm maximum z.answer s.0 _
    (record { ins = λ e. refl; base = λ e. refl; size = started-size s.0.kept.allocator maximum }))
acts u no_wakes h s i = calm_step u i (record { ins = λ e. refl; base = λ e. refl; size = refl })
acts u (waken codes) h s i = calm_step u i (record { ins = λ e. refl; base = λ e. refl; size = refl })

loaded-sends : (p : InPage) (b : Buf) → (loaded_in p b).load ≡ true → (loaded_in p b).sending ≡ true
loaded-sends p b = by (some p.waiting)
  where
    by : (u : Bool) → (cond u (sent_in p b) (placed_in p)).load ≡ true → (cond u (sent_in p b) (placed_in p)).sending ≡ true
    by true h = refl
    by false h = never h

hands : (q : DmaStep) (s : Bk) → Orderly s.0 → Done Either s.0 (hand_b q s).1.0
hands (arrive f n) s i = done-weaker (calm_done i (calm-or (receiving s.0 f)
    (record { ins = λ e. refl; base = λ e. refl; size = refl }) calm))
hands (send f) s i =
    let p = s.0.ins f in
    with-page (λ p. weaker turns-refl) s.0 f (loaded_in p s.1) (loaded-sends p s.1) (loaded-turns p s.1) i
hands (place Out f) s i = done-weaker (calm_done i calm)
hands (place In f) s i = done-weaker (with-page (λ p. turns-refl) s.0 f (placed_in (s.0.ins f)) never
    (placed-turns (s.0.ins f)) i)
hands place0 s i = done-weaker (calm_done i calm)

resets : (n : ℕ) (t : Pages) → Orderly t → Done Unsent t (bus_reset_b n t)
resets zero t i = record {
  orderly = record { periodic = λ x y m. refl; bases = i.bases; loads = λ e h. h };
  follows = record { size = refl; base = λ e. inr none_left; pages = λ e. empty-turns };
}
resets (suc zero) t i = calm_done i calm
resets (suc (suc zero)) t i = calm_done i (record { ins = λ e. refl; base = λ e. refl; size = refl })
resets (suc (suc (suc k))) t i = calm_done i (record { ins = λ e. refl; base = λ e. refl; size = refl })

switches : (f : ℕ) (onn : Bool) (n : ℕ) (t : Pages) → NoInPageChange t (switch_b f onn n t).1
switches f onn zero t = record { ins = λ e. refl; base = λ e. refl; size = refl }
switches f onn (suc zero) t = record { ins = λ e. refl; base = λ e. refl; size = refl }
switches f onn (suc (suc zero)) t = calm
switches f onn (suc (suc (suc k))) t = calm-or (iso_of t Out f && eqb k 15)
    (record { ins = λ e. refl; base = λ e. refl; size = refl }) calm

row-steps : (g : Burst) (n : ℕ) (s : Bk) → Orderly s.0 → Done Either s.0 (row_b g n s).1.0
row-steps (switch f onn) n s i = done-weaker (calm_done i (switches f onn n s.0))
row-steps bus_reset_lem n s i = done-weaker (resets n s.0 i)

-- ---- scripts

abbrev WithinOf : Bool → Bk → Bk → Type 0
WithinOf u s t = Within u s.0 t.0

abbrev AskedOf : Bool → Bk → Access → Bk → Type 0
AskedOf u s q t = Asked u s.0 t.0

abbrev pub Followed : {A : Type 0} → Bool → Bk → tree.Out Bk A → Type 0
Followed u s o = Tracks Orderly (WithinOf u) (AskedOf u) s o

within-then : (u : Bool) (r s t : Bk) → WithinOf u r s → WithinOf u s t → WithinOf u r t
within-then true r s t h k = stays_then h k
within-then false r s t h k = follows_then h k

asked-then : (u : Bool) (r s t : Bk) (q : Access) → WithinOf u r s → AskedOf u s q t → AskedOf u r q t
asked-then true r s t q h k = stays_then h k
asked-then false r s t q h k = follows_then h k

asks-quietly : (u : Bool) (s : Bk) → Orderly s.0 → (q : Access) → AskedOf u s q s
asks-quietly true s i q = calm-stays calm
asks-quietly false s i q = (done-weaker (calm_done i calm)).follows

after : {A : Type 0} (u : Bool) {s t : Bk} {o : tree.Out Bk A} → WithinOf u s t → Followed u t o → Followed u s o
after u h w = earlier Orderly (WithinOf u) (AskedOf u) (within-then u) (asked-then u) h w

follow-rows : {A : Type 0} (g : Burst) (n : ℕ) {k : Bk → tree.Out Bk A}
    → ((t : Bk) → Orderly t.0 → Followed false t (k t)) → (s : Bk) → Orderly s.0
    → Followed false s (rows book_ops g n k s)
follow-rows g zero h s i = let m = row-steps g zero s i in ask m.orderly m.follows (λ v t j. h t j)
follow-rows g (suc n) h s i = let m = row-steps g (suc n) s i in ask m.orderly m.follows
    (λ v t j. follow-rows g n h t j)

pub follow : (u : Bool) {A : Type 0} {p : Script false A} → InRows u A p → (s : Bk) → Orderly s.0
    → Followed u s (run book_ops p s)
follow u r_ret s i = let m = calm_step u i calm in end i m.within
follow u (r_bind h g) s i = tracks_bind Orderly (WithinOf u) (AskedOf u) (within-then u) (asked-then u) (follow u h s i)
    (λ a t j. follow u (g a) t j)
follow u (r_test {b = true} h g) s i = follow u h s i
follow u (r_test {b = false} h g) s i = follow u g s i
follow u (r_read {r = r} {e = e} h) s i = ask i (asks-quietly u s i (Read r e)) (λ v t j. follow u (h v) t j)
follow u (r_write {r = r} {e = e} {v = v} m h) s i = ask i (asks-quietly u s i (Write r e v)) (λ _ t j. follow u h t j)
follow u (r_wait {n = n} h) s i = ask i (asks-quietly u s i (Wait n)) (λ _ t j. follow u h t j)
follow u (r_callback h) s i = ask i (asks-quietly u s i Callback) (λ _ t j. follow u h t j)
follow u (r_get h) s i = follow u (h _) s i
follow u (r_put {c = c} {v = v} h) s i = let m = calm_step u i (puts c v s i) in after u m.within
    (follow u h (put_b c v s) m.orderly)
follow u (r_is h) s i = follow u (h _) s i
follow u (r_look h) s i = follow u (h _) s i
follow u (r_fetch h) s i = follow u (h _) s i
follow u (r_act {q = q} k h) s i = let m = acts u q k s i in after u m.within (follow u h (act_b q s) m.orderly)
follow false (r_hand {q = q} k h) s i = let m = hands q s i in ask m.orderly m.follows
    (λ _ t j. follow false h t j)
follow true (r_hand k h) s i = never k
follow false (r_row {g = g} k h) s i = follow-rows g (last_of g) (λ t j. follow false h t j) s i
follow true (r_row k h) s i = never k

woken : (e : ℕ) (s : Bk) → Orderly s.0 → Followed false s (run book_ops (wake {i = true} In e) s)
woken e s i = let m = acts false (waken (wake_code In e ∷ [])) refl s i in end m.orderly m.within

-- a load, by whether one waits
load-followed : (e : ℕ) (s : Bk) → Orderly s.0 → (u : Bool)
    → let next : Script true Unit = bind (look (next_len_lem In e)) (λ n. write EpTLen e n) in Followed false s
    (bind_out (cond u (asks (Transmit e 0) (hand_b (send e) s).1 (λ _ t. run book_ops next t))
    (asks (Write EpTLen e 0) s (λ _ t. ends tt t)))
    (λ _ t. run book_ops (wake {i = true} In e) t))
load-followed e s i true =
    let m = hands (send e) s i in
    ask m.orderly m.follows (λ _ t j. ask j (asks-quietly false t j (Write EpTLen e 0)) (λ _ u k. woken e u k))
load-followed e s i false = ask i (asks-quietly false s i (Write EpTLen e 0)) (λ _ t j. woken e t j)

pub follow-parts : {A : Type 0} {p : Script true A} → Parts A p → (s : Bk) → Orderly s.0
    → Followed false s (run book_ops p s)
follow-parts p_ret s i = end i (calm_done i calm).follows
follow-parts (p_bind h g) s i =
    tracks_bind Orderly (WithinOf false) (AskedOf false) (within-then false) (asked-then false) (follow-parts h s i)
    (λ a t j. follow-parts (g a) t j)
follow-parts (p_test {b = true} h g) s i = follow-parts h s i
follow-parts (p_test {b = false} h g) s i = follow-parts g s i
follow-parts (p_read {r = r} {e = e} h) s i = ask i (asks-quietly false s i (Read r e))
    (λ v t j. follow-parts (h v) t j)
follow-parts (p_write {r =
    r} {e = e} {v = v} l h) s i = ask i (asks-quietly false s i (Write r e v)) (λ _ t j. follow-parts h t j)
follow-parts (p_wait {n = n} h) s i = ask i (asks-quietly false s i (Wait n)) (λ _ t j. follow-parts h t j)
follow-parts (p_callback h) s i = ask i (asks-quietly false s i Callback) (λ _ t j. follow-parts h t j)
follow-parts (p_get h) s i = follow-parts (h _) s i
follow-parts (p_put {c = c} {v = v} u h) s i = let m = calm_step false i (puts c v s i) in after false m.within
    (follow-parts h (put_b c v s) m.orderly)
follow-parts (p_is h) s i = follow-parts (h _) s i
follow-parts (p_look h) s i = follow-parts (h _) s i
follow-parts (p_fetch h) s i = follow-parts (h _) s i
follow-parts (p_load {e = e}) s i =
    let m = acts false (complete e) refl s i in
    after false m.within (load-followed e (act_b (complete e) s) m.orderly
    (some ((act_b (complete e) s).0.ins e).waiting))
follow-parts (p_no_wakes h) s i = let m = acts false no_wakes refl s i in after false m.within
    (follow-parts h (act_b no_wakes s) m.orderly)
follow-parts (p_waken {codes = c} h) s i = let m = acts false (waken c) refl s i in after false m.within
    (follow-parts h (act_b (waken c) s) m.orderly)
follow-parts (p_arrive {e = e} {n = n} h) s i = let m = hands (arrive e n) s i in ask m.orderly m.follows
    (λ _ t j. follow-parts h t j)
