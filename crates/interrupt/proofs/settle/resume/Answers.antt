use Rattle.interrupt.specs.TransferLaws.{settle_told, wider}
use Rattle.interrupt.specs.Settle.{fits_at}
use mathlib.Core.Path.{refl}
use native.Mathlib.Omega.{arith}
use borrow.Author.Rules.{rules}
use Rattle.interrupt.proofs.settle.resume.Goals as goal

pub after_iso_look-requires : goal.after_iso_look-requires
unfolding fits_at
after_iso_look-requires c =
    wider _ 2 (omega arith) (settle_told _ _ c.args.v c.in-IsoLook.is c.requires)

pub enum_told-1 : goal.enum_told-1
enum_told-1 c = search rules

pub byte-requires : goal.byte-requires
unfolding fits_at
byte-requires c = wider _ 7 (omega arith) (settle_told _ _ c.args.v c.in-IsoSt.is c.requires)

pub short-requires : goal.short-requires
unfolding fits_at
short-requires c = settle_told _ _ c.args.v c.in-IsoLen.is c.requires

pub after_bulk_look-requires : goal.after_bulk_look-requires
unfolding fits_at
after_bulk_look-requires c =
    wider _ 2 (omega arith) (settle_told _ _ c.args.v c.in-BulkLook.is c.requires)

pub short-requires-in-BulkLen : goal.short-requires-in-BulkLen
unfolding fits_at
short-requires-in-BulkLen c = settle_told _ _ c.args.v c.in-BulkLen.is c.requires

pub after_mis-requires : goal.after_mis-requires
unfolding fits_at
after_mis-requires c =
    wider _ 2 (omega arith) (settle_told _ _ c.args.v c.in-Mis.is c.requires)

pub after_flags-requires : goal.after_flags-requires
unfolding fits_at
after_flags-requires c =
    wider _ 6 (omega arith) (settle_told _ _ c.args.v c.in-Flags.is c.requires)

pub after_st-requires : goal.after_st-requires
unfolding fits_at
after_st-requires c = wider _ 7 (omega arith) (settle_told _ _ c.args.v c.in-St.is c.requires)

pub after_nak-requires : goal.after_nak-requires
after_nak-requires c = settle_told _ _ c.args.v c.in-Nak.is c.requires

pub returns-in-IsoLook : goal.returns-in-IsoLook
returns-in-IsoLook c =
    (λ b. simp (c.after_iso_look.ensures.0, c.in-IsoLook.is), c.after_iso_look.ensures.1)

pub returns-in-IsoSt : goal.returns-in-IsoSt
returns-in-IsoSt c = (λ b. simp (c.byte.ensures, c.in-IsoSt.is), refl)

pub returns-in-IsoLen : goal.returns-in-IsoLen
returns-in-IsoLen c = (λ b. simp (c.late_taken.ensures, c.short.ensures, c.in-IsoLen.is), tt)

pub returns-in-BulkLook : goal.returns-in-BulkLook
returns-in-BulkLook c =
    (λ b. simp (c.after_bulk_look.ensures.0, c.in-BulkLook.is), c.after_bulk_look.ensures.1)

pub returns-in-BulkLen : goal.returns-in-BulkLen
returns-in-BulkLen c =
    (λ b. simp (c.waited.ensures, c.short-in-BulkLen.ensures, c.in-BulkLen.is), tt)

pub returns-in-Mis : goal.returns-in-Mis
returns-in-Mis c = (λ b. simp (c.after_mis.ensures.0, c.in-Mis.is), c.after_mis.ensures.1)

pub returns-in-Flags : goal.returns-in-Flags
returns-in-Flags c =
    (λ b. simp (c.after_flags.ensures.0, c.in-Flags.is), c.after_flags.ensures.1)

pub returns-in-St : goal.returns-in-St
returns-in-St c = (λ b. simp (c.after_st.ensures.0, c.in-St.is), c.after_st.ensures.1)

pub returns-in-Nak : goal.returns-in-Nak
returns-in-Nak c = (λ b. simp (c.after_nak.ensures.0, c.in-Nak.is), c.after_nak.ensures.1)
