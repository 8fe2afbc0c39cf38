use mathlib.Core.Path.{refl, ap, sym, ◌∙◌}
use Rattle.bits.specs.Bit.{bit_is_set}
use Rattle.regs.specs.declared.Dir.TheVariants.{In}
use Rattle.regs.specs.Enables as enables
use Rattle.state.specs.declared.Globals.{Globals}
use Rattle.script.specs.Tree.{ends}
use Rattle.state.specs.State.{view}
use Rattle.state.specs.Driver.{Driver}
use Rattle.isochronous.specs.Laws.{advance-reads, advance-forgets, advance-ends}
use Rattle.isochronous.specs.declared.advance.Advance.TheVariants as point
use Rattle.isochronous.specs.AdvanceLaws.{begun-at}
use Rattle.isochronous.proofs.advance.iso_in_advance.Goals as goal

pub returns-then-is_on : goal.returns-then-is_on
returns-then-is_on c =
    let begun = begun-at (point.FrameNo _) c.point.ensures refl in (
      λ b. begun.0 _ b ∙ sym (advance-reads c.args.e
          (view c.args.s.now) b
          (ap (λ (g : Globals). bit_is_set g.iso_in_paced
          c.args.e)
          (sym c.load_globals-g.ensures)
          ∙ (sym c.is_paced.ensures ∙ c.if-is_paced.true))
          (ap (λ (g : Globals). enables.is_on g.ep_config In
          c.args.e)
          (sym c.load_globals-g.ensures)
          ∙ (sym c.is_on.ensures ∙ c.if-is_on.true))),
      (refl, begun.1),
    )

pub returns-then-is_paced : goal.returns-then-is_paced
returns-then-is_paced c = (
  λ b. ap (λ (d : Driver). ends 0 (d, b)) c.store_paced.ensures.s_after ∙ sym (advance-forgets c.args.e
      (view c.args.s.now) b (ap (λ (g : Globals). bit_is_set g.iso_in_paced c.args.e)
      (sym c.load_globals-g.ensures) ∙ (sym c.is_paced.ensures ∙ c.if-is_paced.true))
      (ap (λ (g : Globals). enables.is_on g.ep_config In c.args.e) (sym c.load_globals-g.ensures)
      ∙ (sym c.is_on.ensures ∙ c.if-is_on.false))),
  (c.store_paced.ensures.s_unchanged, tt),
)

pub returns : goal.returns
returns c = (
  λ b. sym (advance-ends c.args.e (view c.args.s.now) b
      (ap (λ (g : Globals). bit_is_set g.iso_in_paced c.args.e)
      (sym c.load_globals-g.ensures) ∙ (sym c.is_paced.ensures ∙ c.if-is_paced.false))),
  (refl, tt),
)
