use mathlib.Core.Path.{refl, sym, ◌∙◌}
use Rattle.state.specs.State.{view}
use Rattle.isochronous.specs.OutLaws.{found-entry, found-status, found_nothing}
use borrow.Author.Rules.{rules}
use Rattle.isochronous.proofs.out.walk_on.Goals as goal

pub returns-then-entry : goal.returns-then-entry
returns-then-entry c =
    let r = c.arm.ensures c.args.x c.args.iso in (
      r.0
          ∙ sym (c.find-f.ensures c.args.x c.args.iso ∙ found-entry c.args.x c.args.iso c.find-f.result _ _
          (view c.args.s.now, c.args.buf.now)
          c.in-At.is (sym c.entry.ensures ∙ c.if-entry.true)),
      (r.1.0, r.1.1),
    )

pub enum_told-1 : goal.enum_told-1
enum_told-1 c = search rules

pub returns-else-entry : goal.returns-else-entry
returns-else-entry c = (
  sym (c.find-f.ensures c.args.x c.args.iso ∙ found-status c.args.x c.args.iso c.find-f.result _ _ (view c.args.s.now, c.args.buf.now)
      c.in-At.is (sym c.entry.ensures ∙ c.if-entry.false)),
  (refl, refl),
)

pub returns-in-Nothing : goal.returns-in-Nothing
returns-in-Nothing c = (
  sym (c.find-f.ensures c.args.x c.args.iso ∙ found_nothing c.args.x c.args.iso c.find-f.result (view c.args.s.now, c.args.buf.now)
      c.in-Nothing.is),
  (refl, tt),
)
