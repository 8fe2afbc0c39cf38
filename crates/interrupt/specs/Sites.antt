-- Which point each number of the saved record's `site` is
use Rattle.std.specs.Prelude.{Bool, List, ◌≡◌, ℕ}
use Rattle.std.proofs.Common.{◌∙◌, ap, sym, ne_eqb}
use Rattle.state.specs.declared.Saved.{Saved}
use Rattle.state.specs.State.{saved}
use Rattle.script_ops.specs.Numbers.{INTERRUPT}
use Rattle.script.specs.declared.Transfer.{Transfer}
use Rattle.script.specs.Statics.{is_on}
use Rattle.interrupt.specs.declared.Entry.{Entry}
use Rattle.interrupt.specs.declared.Point.{Point}
use Rattle.interrupt.specs.declared.Point.TheVariants as point
use Rattle.interrupt.specs.Codec as codec
use Rattle.interrupt.specs.Codec.{by_number}
use Rattle.interrupt.specs.Stands.{AtSite}
use Rattle.interrupt.specs.Suspended as under
use Rattle.interrupt.specs.Suspended.{decode}
use Rattle.interrupt.specs.SuspendedLaws.{at-interrupt}
use Rattle.answer.specs.Answering.{NoneOf}

on-site : (c : Saved) (k : ℕ) → c.tag ≡ INTERRUPT → c.site ≡ k → decode c ≡ under.Interrupt (by_number k c)
unfolding codec.decode
on-site c k t h = at-interrupt c (by_number k c) t (ap (λ (n : ℕ). by_number n c) (sym h))

-- with the parts that were loaded
pub at-site : (k : ℕ) {p : Point} {xs : List ℕ} → AtSite k xs → p ≡ by_number k (saved xs) → decode (saved xs)
    ≡ under.Interrupt p
at-site k {p} {xs} a e = on-site (saved xs) k a.tagged a.numbered ∙ ap under.Interrupt (sym e)

-- a point that has what the entry has found out; with an inner point; with its frame too
abbrev pub of_entry : {A : Type 0} → (Bool → Transfer → Bool → A) → Entry → A
of_entry f e = f e.setup e.x e.iso

abbrev pub of_inner : {A Q : Type 0} → (Bool → Transfer → Bool → Q → A) → Entry → Q → A
of_inner f e q = f e.setup e.x e.iso q

abbrev pub of_framed : {A Q : Type 0} → (Bool → Transfer → Bool → ℕ → Q → A) → Entry → Q → A
of_framed f e q = f e.setup e.x e.iso e.frame q

-- any other number
first : (c : Saved) (k : ℕ) → NoneOf 25 k → point.Frame ≡ by_number k c
first c k (
  (
    (
      (
        (
          ((((((((((((((((((((z, a), b), d), e), f), g), h), i), j), l), m), n), o), p), q), r), s), t), u), v),
          w,
        ),
        x,
      ),
      y,
    ),
    A,
  ),
  B,
) =
    simp (
      ne_eqb k 1 a,
      ne_eqb k 2 b,
      ne_eqb k 3 d,
      ne_eqb k 4 e,
      ne_eqb k 5 f,
      ne_eqb k 6 g,
      ne_eqb k 7 h,
      ne_eqb k 8
          i,
      ne_eqb k 9 j,
    )
    (simp (
      ne_eqb k 10 l,
      ne_eqb k 11 m,
      ne_eqb k 12 n,
      ne_eqb k 13 o,
      ne_eqb k 14 p,
      ne_eqb k 15 q,
      ne_eqb k 16 r,
      ne_eqb k 17 s,
      ne_eqb k 18 t,
    )
    (simp (ne_eqb k 19 u, ne_eqb k 20 v, ne_eqb k 21 w, ne_eqb k 22 x, ne_eqb k 23 y, ne_eqb k 24 A, ne_eqb k 25 B)))

pub at_first : (c : Saved) (k : ℕ) → c.tag ≡ INTERRUPT → c.site ≡ k → NoneOf 25 k → decode c
    ≡ under.Interrupt point.Frame
at_first c k t h r = on-site c k t h ∙ ap under.Interrupt (sym (first c k r))

-- mis_st is read
pub on-mis : (c : Saved) → c.tag ≡ INTERRUPT → c.site ≡ codec.MIS → decode c
    ≡ under.Interrupt (point.Mis (is_on c.flag))
on-mis c t h = on-site c codec.MIS t h

pub loaded-mis : (c : Saved) (setup : Bool) → setup ≡ is_on c.flag → decode c
    ≡ under.Interrupt (point.Mis (is_on c.flag))
    → decode c ≡ under.Interrupt (point.Mis setup)
loaded-mis c setup e p = p ∙ ap (λ (x : Bool). under.Interrupt (point.Mis x)) (sym e)
