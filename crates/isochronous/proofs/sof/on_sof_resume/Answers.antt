use mathlib.Core.Path.{refl}
use Rattle.isochronous.specs.Laws.{fits-mis, fits-st}
use borrow.Author.Rules.{rules}
use Rattle.isochronous.proofs.sof.on_sof_resume.Goals as goal

pub after_mis-requires : goal.after_mis-requires
after_mis-requires c = fits-mis _ _ _ _ c.in-Mis.is c.requires

pub after_st-requires : goal.after_st-requires
after_st-requires c = fits-st _ _ _ _ c.in-St.is c.requires

pub enum_told-1 : goal.enum_told-1
enum_told-1 c = search rules

pub returns-in-Mis : goal.returns-in-Mis
returns-in-Mis c =
    (λ b. simp (c.after_mis.ensures.0, c.in-Mis.is), (c.after_mis.ensures.1.0, c.after_mis.ensures.1.1))

pub returns-in-St : goal.returns-in-St
returns-in-St c =
    (λ b. simp (c.after_st.ensures.0, c.in-St.is), (c.after_st.ensures.1.0, c.after_st.ensures.1.1))

pub returns-in-Completing : goal.returns-in-Completing
returns-in-Completing c =
    let there = c.after_completing.ensures c.args.v in
    (λ b. simp (there.0, c.in-Completing.is), (there.1.0, there.1.1))

pub returns-in-Callback : goal.returns-in-Callback
returns-in-Callback c = (λ b. simp c.in-Callback.is, (refl, tt))
