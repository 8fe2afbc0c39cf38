-- Laws on the definitions of Follow.antt: no operation on rings, slots and wake-ups changes what the log of an
-- endpoint's toggle is told by the record; ways that are followed
use Rattle.std.specs.Prelude.{Bool, true, false, cond, ◌≡◌, refl, ℕ}
use Rattle.std.proofs.Common.{subst, sym}
use Rattle.regs.specs.declared.Dir.{Dir}
use Rattle.state.specs.declared.EpState.{EpState}
use Rattle.state.specs.Driver.{Driver, ep_on, with_on}
use Rattle.script.specs.Script.{Act, DmaStep}
use Rattle.script.specs.TransferKinds.{allocates}
use Rattle.script_ops.specs.Rings.{St}
use Rattle.script_ops.specs.Concrete.{concrete}
use Rattle.proof_book.specs.LeavesLaws.{Leaves, record-leaves, narrow, RingsOnly, turns, act-leaves, hand-leaves}
use Rattle.script.specs.Tree as tree
use Rattle.script.specs.Tree.{bind_out}
use Rattle.proof_usb20.specs.WatchLaws.{watch-bind, watch-more, watch-cond}
use Rattle.proof_usb20.specs.Sequence.{Track}
use Rattle.proof_usb20.specs.Follow.{EpSeen, seen_of, view, Follow}

abbrev core : EpState → EpSeen
core r = seen_of r 0

abbrev stage_of : Driver → ℕ
stage_of d = d.globals.stage

module _ (D : Dir) (E : ℕ) where
  pub follow-bind : {A B : Type 0} {P : Track → A → St → Type 0} {Q : Track → B → St → Type 0} {w : Track}
      {o : tree.Out St A} {f : A → St → tree.Out St B}
      → Follow D E P w o → ((x : Track) (a : A) (s : St) → P x a s → Follow D E Q x (f a s))
      → Follow D E Q w (bind_out o f)
  follow-bind x k = watch-bind x k

  pub follow-more : {A : Type 0} {P Q : Track → A → St → Type 0} {w : Track} {o : tree.Out St A}
      → Follow D E P w o → ((x : Track) (a : A) (s : St) → P x a s → Q x a s) → Follow D E Q w o
  follow-more x f = watch-more x f

  pub follow-cond : {A : Type 0} {P : Track → A → St → Type 0} {w : Track} (b : Bool) {o u : tree.Out St A}
      → (b ≡ true → Follow D E P w o) → (b ≡ false → Follow D E P w u) → Follow D E P w (cond b o u)
  follow-cond b x y = watch-cond b x y

  -- a log that is another's
  pub follow-at : {A : Type 0} {P : Track → A → St → Type 0} {x y : Track} {o : tree.Out St A} → x ≡ y
      → Follow D E P y o
      → Follow D E P x o
  follow-at {P = P} {o = o} h f = subst (λ (u : Track). Follow D E P u o) (sym h) f

  leaves-view : {d d' : Driver} → Leaves core stage_of d d' → view D E d' ≡ view D E d
  leaves-view p = λ i. record {
    ready = (p.each D E i).ready;
    len = (p.each D E i).len;
    armed = (p.each D E i).armed;
    tog = (p.each D E i).tog;
    iso = (p.each D E i).iso;
    stage = p.rest i;
  }

  -- a change of one endpoint's record that keeps it
  pub record-view : (d : Driver) (dir : Dir) (e : ℕ) (r : EpState) → core r ≡ core (ep_on d dir e)
      → view D E (with_on d dir e r) ≡ view D E d
  unfolding with_on
  record-view d dir e r h = leaves-view (record-leaves d dir e r h refl)

  rings-view : (t : Bool) {d d' : Driver} → RingsOnly t d d' → view D E d' ≡ view D E d
  rings-view t p = leaves-view
      (narrow (λ r. record { ready = r.ready; len = r.len; armed = r.armed; tog = r.tog; iso = r.iso; stage = 0 })
      (λ x. x.0.stage) p)

  pub act-view : (q : Act) → allocates q ≡ false → (s : St) → view D E (concrete.act q s).0 ≡ view D E s.0
  act-view q h s = rings-view (turns q) (act-leaves q h s)

  pub hand-view : (q : DmaStep) (s : St) → view D E (concrete.hand q s).1.0 ≡ view D E s.0
  hand-view q s = rings-view false (hand-leaves q s)
