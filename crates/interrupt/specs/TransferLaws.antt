-- An operation inside another, and readings that are a byte or two. Assumes nothing.
use Rattle.std.specs.Prelude.{◌≡◌, refl, Bool, true, false, List, ℕ, ◌^◌, ◌<◌, ◌≤◌}
use Rattle.std.proofs.Math.Path.{ap}
use Rattle.std.proofs.Common.{sym, subst, ◌∙◌, arith, lt-ltb, ltb-true}
use Rattle.regs.specs.declared.Access.{Access}
use Rattle.regs.specs.declared.Access.TheVariants.{Read}
use Rattle.regs.specs.declared.Reg.TheVariants.{MisSt, EpTxCtrl}
use Rattle.regs.specs.declared.Dir.{Dir}
use Rattle.regs.specs.declared.Dir.TheVariants.{Out, In}
use Rattle.regs.specs.Registers.{ctrl_of, width_of, fits_in}
use Rattle.regs.specs.Status.{endpoint}
use Rattle.state.specs.declared.EpState.{EpState}
use Rattle.state.specs.Driver.{Driver, ep_on}
use Rattle.script.specs.declared.Transfer.{Transfer}
use Rattle.script.specs.Tree as tree
use Rattle.script.specs.Tree.{asks, ends, bind_out}
use Rattle.script.specs.Script.{run}
use Rattle.script.specs.Machine.{awaited}
use Rattle.script.specs.Handler as script
use Rattle.script.specs.Handler.{nak_non_iso, out_naks, in_naks, waits_for_iso, waits_for_bulk, retaken}
use Rattle.script_ops.specs.Records.{plain_of}
use Rattle.script_ops.specs.Rings.{St}
use Rattle.script_ops.specs.Concrete.{concrete}
use Rattle.interrupt.specs.declared.nak.Nak.{Nak}
use Rattle.interrupt.specs.declared.nak.Nak.TheVariants as nak-point
use Rattle.interrupt.specs.declared.nak.NakNext.{NakNext}
use Rattle.interrupt.specs.declared.nak.NakNext.TheVariants as nak-next
use Rattle.interrupt.specs.declared.toggled.Toggled.{Toggled}
use Rattle.interrupt.specs.declared.settle.Settle.{Settle}
use Rattle.interrupt.specs.declared.settle.Settle.TheVariants as settle-point
use Rattle.interrupt.specs.declared.settle.SettleNext.{SettleNext}
use Rattle.interrupt.specs.declared.settle.SettleNext.TheVariants as settle-next
use Rattle.interrupt.specs.Nak as nak
use Rattle.interrupt.specs.Toggled as toggled
use Rattle.interrupt.specs.Settle as settle

-- ---- `nak_non_iso` where an OUT is not answered NAK: by whether an IN is

abbrev pub in_next : ℕ → Bool → NakNext
in_next e true = nak-next.Asks (Read EpTxCtrl e) (nak-point.Word In)
in_next e false = nak-next.Ends

pub nak-in : (st : ℕ) (d : Driver) (b : List ℕ) (e : ℕ) (o n : EpState) (x y a : Bool) → e ≡ endpoint st
    → o ≡ ep_on d Out e → x ≡ out_naks st (plain_of o) → x ≡ false → n ≡ ep_on d In e → y ≡ in_naks st (plain_of n) → y ≡ a
    → nak.meaning st (in_next e a) d b ≡ run concrete (nak_non_iso {i = true} st) (d, b)
nak-in st d b e o n x y true he ho hx lx hn hy ly = simp (← he, ← ho, ← hx, lx, ← hn, ← hy, ly)
nak-in st d b e o n x y false he ho hx lx hn hy ly = simp (← he, ← ho, ← hx, lx, ← hn, ← hy, ly)

-- ---- a transfer that waits for nothing: by whether it was on the bus

abbrev pub busy_next : Transfer → Bool → SettleNext
busy_next x true = settle-next.Asks (Read MisSt 0) settle-point.Mis
busy_next x false = settle-next.Ends x

pub settle-busy : (x : Transfer) (d : Driver) (e : ℕ) (o n : EpState) (u y a : Bool) → e ≡ endpoint x.st
    → o ≡ ep_on d Out e → u ≡ waits_for_iso x (plain_of o) → u ≡ false → n ≡ ep_on d In e → y ≡ waits_for_bulk x (plain_of n)
    → y ≡ false → x.busy ≡ a
    → ((b : List ℕ) → settle.meaning x (busy_next x a) d b ≡ run concrete (script.settle {i = true} x) (d, b))
    × settle.Linked (busy_next x a)
unfolding settle.after_mis settle.after_flags settle.after_st
settle-busy x d e o n u y true he ho hu lu hn hy ly lb = (λ b. simp (← he, ← ho, ← hu, lu, ← hn, ← hy, ly, lb), refl)
settle-busy x d e o n u y false he ho hu lu hn hy ly lb = (λ b. simp (← he, ← ho, ← hu, lu, ← hn, ← hy, ly, lb), tt)

-- ---- the rest f after `nak_non_iso`

pub nak-asks : {A : Type 0} (f : Unit {0} → tree.Prog St A) (st : ℕ) (n : NakNext) (q : Access) (p : Nak) (d : Driver)
    (b : List ℕ) (o : tree.Out St Unit)
    → n ≡ nak-next.Asks q p
    → nak.meaning st n d b ≡ o
    → asks q (d, b) (λ v t. bind_out (nak.denote st p v t) f) ≡ bind_out o f
nak-asks f st n q p d b o h k = ap (λ (m : NakNext). bind_out (nak.meaning st m d b) f) (sym h)
    ∙ ap (λ (x : tree.Out St Unit). bind_out x f) k

pub nak-ends : {A : Type 0} (f : Unit {0} → tree.Prog St A) (st : ℕ) (n : NakNext) (d : Driver) (b : List ℕ)
    (o : tree.Out St Unit)
    → n ≡ nak-next.Ends
    → nak.meaning st n d b ≡ o
    → f tt (d, b) ≡ bind_out o f
nak-ends f st n d b o h k = ap (λ (m : NakNext). bind_out (nak.meaning st m d b) f) (sym h)
    ∙ ap (λ (x : tree.Out St Unit). bind_out x f) k

pub nak-linked : (n : NakNext) (q : Access) (p : Nak) → n ≡ nak-next.Asks q p → nak.Linked n → awaited q
    ≡ nak.awaits_at p
nak-linked n q p h k = subst nak.Linked h k

-- ---- int_st is read again: what follows `nak_non_iso`

module _ (x : Transfer) (st v : ℕ) (n : NakNext) (d : Driver)
    (b : List ℕ) (h : st ≡ v) (k : nak.meaning st n d b ≡ run concrete (nak_non_iso {i = true} st) (d, b)) where
  abbrev taken : Unit {0} → tree.Prog St Transfer
  taken _ u = ends (retaken x st) u

  read_as : run concrete (settle.after_st x st) (d, b) ≡ run concrete (settle.after_st x v) (d, b)
  read_as = ap (λ (w : ℕ). run concrete (settle.after_st x w) (d, b)) h

  pub st-asks : (q : Access) (p : Nak) → n ≡ nak-next.Asks q p
      → asks q (d, b) (λ w t. bind_out (nak.denote st p w t) taken) ≡ run concrete (settle.after_st x v) (d, b)
  unfolding settle.after_st
  st-asks q p l = nak-asks taken st n q p d b (run concrete (nak_non_iso {i = true} st) (d, b)) l k ∙ read_as

  pub st-ends : (y : Transfer) → y ≡ retaken x st → n ≡ nak-next.Ends → ends y (d, b)
      ≡ run concrete (settle.after_st x v) (d, b)
  unfolding settle.after_st
  st-ends y j l = ap (λ (z : Transfer). ends z (d, b)) j
      ∙ (nak-ends taken st n d b (run concrete (nak_non_iso {i = true} st) (d, b)) l k ∙ read_as)

-- ---- readings

pub word_width : (d : Dir) → width_of (ctrl_of d) ≡ 8
word_width Out = refl
word_width In = refl

below : (v m : ℕ) → m ≤ 256 → v < m → v < 256
below v m h k = omega arith

-- one of fewer bits is a byte
pub wider : (v w : ℕ) → 2 ^ w ≤ 256 → fits_in v w ≡ true → fits_in v 8 ≡ true
unfolding fits_in
wider v w h fits = lt-ltb v 256 (below v (2 ^ w) h (ltb-true v (2 ^ w) fits))

-- what a match told of the point
pub nak-told : (p q : Nak) (v : ℕ) → p ≡ q → nak.fits_at p v ≡ true → nak.fits_at q v ≡ true
nak-told p q v h k = ap (λ (x : Nak). nak.fits_at x v) (sym h) ∙ k

pub toggled-told : (p q : Toggled) (v : ℕ) → p ≡ q → toggled.fits_at p v ≡ true → toggled.fits_at q v ≡ true
toggled-told p q v h k = ap (λ (x : Toggled). toggled.fits_at x v) (sym h) ∙ k

pub settle_told : (p q : Settle) (v : ℕ) → p ≡ q → settle.fits_at p v ≡ true → settle.fits_at q v ≡ true
settle_told p q v h k = ap (λ (x : Settle). settle.fits_at x v) (sym h) ∙ k
