use mathlib.Core.Path.{ap, sym, ◌∙◌}
use Rattle.state.specs.State.{view}
use Rattle.isochronous.specs.declared.out.Check.{Check}
use Rattle.isochronous.specs.Points as points
use Rattle.isochronous.specs.OutLaws.{fits-status}
use Rattle.isochronous.proofs.out.iso_out_check_resume.Goals as goal

pub after_st-requires : goal.after_st-requires
after_st-requires c = fits-status c.args.p c.args.v _ _ c.in-St.is c.requires

pub returns-in-St : goal.returns-in-St
returns-in-St c = (
  c.after_st.ensures.0 ∙ ap (λ (q : Check). points.denote c.args.x c.args.iso q c.args.v (view c.args.s.now, c.args.buf.now))
      (sym c.in-St.is),
  (c.after_st.ensures.1.0, c.after_st.ensures.1.1),
)

pub returns-in-Armed : goal.returns-in-Armed
returns-in-Armed c =
    let r = c.after_armed.ensures c.args.v in (
      r.0 ∙ ap (λ (q : Check). points.denote c.args.x c.args.iso q c.args.v (view c.args.s.now, c.args.buf.now))
          (sym c.in-Armed.is),
      (r.1.0, r.1.1),
    )
