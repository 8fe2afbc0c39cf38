use mathlib.Core.Path.{◌≡◌, ◌∙◌, ap, sym, refl}
use Prim.Native.Nat.{ℕ, ◌<◌}
use native.Mathlib.Omega.{arith}
use lib.ListN.{get_or}
use borrow.Author.Tests.{eq-eqb, ne_eqb}
use Rattle.state.specs.State.{view, saved}
use Rattle.descriptor.specs.declared.Endpoints.{Endpoints}
use Rattle.descriptor.specs.declared.Reading.{Reading}
use Rattle.descriptor.specs.Reading.{list_of}
use Rattle.descriptor.specs.Writing.{stored}
use Rattle.descriptor.specs.ReadBackLaws.{accepted, stored_of_lem}
use Rattle.script.specs.Calls as calls
use Rattle.machine.specs.Suspended.{decode}
use Rattle.machine.proofs.RowsLaws.{back, other-call}
use Rattle.calls.specs.ListedLaws.{reading_all, all-unread, all_read, passes-idle}
use borrow.Author.Rules.{rules}
use Rattle.calls.proofs.listed_calls.allocate_all.Goals as goal

pub returns-in-Refused : goal.returns-in-Refused
returns-in-Refused c = (
  λ a b. all-unread (decode (saved c.args.s.now)) (view c.args.s.now) a b
      c.args.bytes.now _ (eq-eqb _ _ (sym c.stop-n.ensures ∙ c.if-n-eq0.true))
      (sym (ap (λ (r : Reading). r.answer) c.read-r.ensures) ∙ c.in-Refused.is),
  refl,
)

pub enum_told-1 : goal.enum_told-1
enum_told-1 c = search rules

pub allocate_listed-requires : goal.allocate_listed-requires
allocate_listed-requires c =
    passes-idle (decode (saved c.args.s.now)) (view c.args.s.now)
    (eq-eqb _ _ (sym c.stop-n.ensures ∙ c.if-n-eq0.true))

pub returns-in-Listed : goal.returns-in-Listed
returns-in-Listed c =
    let y : (j : ℕ) → get_or c.args.bytes.now j 0 < 256 = λ j. omega (
      arith,
      c.shared_slice_known-1.given j,
    ) in
    let e = ap (λ (z : Reading). z.answer) (sym c.read-r.ensures) ∙ c.in-Listed.is in
    let l = accepted c.args.bytes.now y e in
    let w : stored c.read-r.result.list ≡ list_of c.args.bytes.now =
    ap (λ (z : Reading). stored z.list) c.read-r.ensures ∙ ap (λ (z : Endpoints). stored z) l.list
    ∙ stored_of_lem (list_of c.args.bytes.now) l.good in (
      λ a b. c.allocate_listed.ensures.by_index b ∙ all_read (decode (saved c.args.s.now)) (view c.args.s.now) a b c.args.bytes.now
          (stored c.read-r.result.list) (eq-eqb _ _ (sym c.stop-n.ensures
          ∙ c.if-n-eq0.true)) e w,
      c.allocate_listed.ensures.saved_by_answer,
    )

pub returns : goal.returns
returns c = (
  λ a b. back
      (other-call (calls.AllocateAll c.args.bytes.now) 1 (reading_all c.args.bytes.now)
      (decode (saved c.args.s.now))
      (view c.args.s.now) a b refl) (simp (← c.stop-n.ensures, ne_eqb _ _ c.if-n-eq0.false)),
  refl,
)
