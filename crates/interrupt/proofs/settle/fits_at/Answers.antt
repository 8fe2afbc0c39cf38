use Rattle.interrupt.specs.Nak as nak
use Rattle.interrupt.specs.Settle.{fits_at}
use Rattle.interrupt.specs.declared.settle.Settle.{Settle}
use Rattle.interrupt.specs.declared.settle.Settle.TheVariants as point
use Rattle.interrupt.specs.contracts.settle.Settle as declared
use Rattle.regs.specs.Registers.{fits_in}
use denote.Enum.Declared.{tag_of}
use types.Run.{OneOf, miss}
use mathlib.Core.Path.{◌≡◌, ◌∙◌, refl}
use mathlib.Core.List.{List, [], ◌∷◌}
use Prim.Native.Nat.{ℕ}
use borrow.Author.Rules.{rules}
use Rattle.interrupt.proofs.settle.fits_at.Goals as goal

-- the points that read mis_st, int_st and rx_len
abbrev looks : List ℕ
looks = 0 ∷ 3 ∷ 5 ∷ []

abbrev statuses : List ℕ
statuses = 1 ∷ 7 ∷ []

abbrev lengths : List ℕ
lengths = 2 ∷ 4 ∷ []

look : (p : Settle) (v : ℕ) → OneOf looks (tag_of declared.the_type p) → fits_in v 2 ≡ fits_at p v
unfolding fits_at
look (point.IsoLook n) v h = refl
look point.IsoSt v h = absurd (miss looks 1 tt h)
look (point.IsoLen now) v h = absurd (miss looks 2 tt h)
look (point.BulkLook n) v h = refl
look point.BulkLen v h = absurd (miss looks 4 tt h)
look point.Mis v h = refl
look point.Flags v h = absurd (miss looks 6 tt h)
look point.St v h = absurd (miss looks 7 tt h)
look (point.Nak st q) v h = absurd (miss looks 8 tt h)

status : (p : Settle) (v : ℕ) → OneOf statuses (tag_of declared.the_type p) → fits_in v 7 ≡ fits_at p v
unfolding fits_at
status (point.IsoLook n) v h = absurd (miss statuses 0 tt h)
status point.IsoSt v h = refl
status (point.IsoLen now) v h = absurd (miss statuses 2 tt h)
status (point.BulkLook n) v h = absurd (miss statuses 3 tt h)
status point.BulkLen v h = absurd (miss statuses 4 tt h)
status point.Mis v h = absurd (miss statuses 5 tt h)
status point.Flags v h = absurd (miss statuses 6 tt h)
status point.St v h = refl
status (point.Nak st q) v h = absurd (miss statuses 8 tt h)

length : (p : Settle) (v : ℕ) → OneOf lengths (tag_of declared.the_type p) → fits_in v 16 ≡ fits_at p v
unfolding fits_at
length (point.IsoLook n) v h = absurd (miss lengths 0 tt h)
length point.IsoSt v h = absurd (miss lengths 1 tt h)
length (point.IsoLen now) v h = refl
length (point.BulkLook n) v h = absurd (miss lengths 3 tt h)
length point.BulkLen v h = refl
length point.Mis v h = absurd (miss lengths 5 tt h)
length point.Flags v h = absurd (miss lengths 6 tt h)
length point.St v h = absurd (miss lengths 7 tt h)
length (point.Nak st q) v h = absurd (miss lengths 8 tt h)

pub enum_told-1 : goal.enum_told-1
enum_told-1 c = search rules

pub returns-in-IsoLook : goal.returns-in-IsoLook
returns-in-IsoLook c =
    c.fits.ensures ∙ look c.args.p c.args.v c.in-IsoLook.in-IsoLook-own.keys1

pub returns-in-IsoSt : goal.returns-in-IsoSt
returns-in-IsoSt c =
    c.fits-in-IsoSt.ensures ∙ status c.args.p c.args.v c.in-IsoSt.in-IsoSt-own.keys2

pub returns-in-IsoLen : goal.returns-in-IsoLen
returns-in-IsoLen c =
    c.fits-in-IsoLen.ensures ∙ length c.args.p c.args.v c.in-IsoLen.in-IsoLen-own.keys3

pub returns-in-Flags : goal.returns-in-Flags
unfolding fits_at
returns-in-Flags c = simp (c.fits-in-Flags.ensures, c.in-Flags.is)

pub returns-in-Nak : goal.returns-in-Nak
unfolding fits_at nak.fits_at
returns-in-Nak c = simp (c.fits_at.ensures, c.in-Nak.is)
