-- Endpoints count modulo 16; the recorded lengths and the stamps of one
use Rattle.std.specs.Prelude.{◌≢◌, ◌≡◌, ℕ, ◌+◌, ◌*◌, ◌%◌, ◌<◌, length, get_or, set}
use Rattle.std.proofs.Math.Path.{refl}
use Rattle.std.proofs.Common.{ap, arith}
use Rattle.bits.specs.Tables.{tab}
use Rattle.bits.specs.TablesLaws.{tab-ext, tab-set, get_d-tab, length-tab}
use Rattle.regs.specs.declared.Dir.{Dir}
use Rattle.regs.specs.declared.Dir.TheVariants.{Out, In}
use Rattle.state.specs.declared.EpState.{EpState}
use Rattle.state.specs.Fresh.{clear_stamps}
use Rattle.state.specs.Driver.{Driver, key, len_key, no_ep, stamp_key, ep_on, with_on, len_on, with_len_on, stamp_on}
use Rattle.state.specs.Driver.{with_stamp_on}
use Rattle.state.specs.Laws.{Sized, key-same, stamp_key-same, len_on-same, len_on-other, stamp_on-same, stamp_on-other}
use Rattle.script_ops.specs.Stamps.{cleared-other}
use Rattle.proof_book.specs.Coupling.{lens_of, slot_stamps}

-- ---- endpoints count modulo 16

pub key-mod : (dir : Dir) (x e : ℕ) → x % 16 ≡ e % 16 → key dir x ≡ key dir e
unfolding key
key-mod Out x e h = h
key-mod In x e h = ap (λ (k : ℕ). 16 + k) h

pub key-other : (dir : Dir) (x e : ℕ) → x % 16 ≢ e % 16 → key dir x ≢ key dir e
key-other dir x e n h = n (key-same dir x e h)

pub ep-mod : (d : Driver) (dir : Dir) (x e : ℕ) → x % 16 ≡ e % 16 → ep_on d dir x ≡ ep_on d dir e
unfolding ep_on
ep-mod d dir x e h = ap (λ (k : ℕ). get_or d.eps k no_ep) (key-mod dir x e h)

pub lens-mod : (d : Driver) (dir : Dir) (x e : ℕ) → x % 16 ≡ e % 16 → lens_of d dir x ≡ lens_of d dir e
unfolding len_on len_key
lens-mod d dir x e h = ap (λ (k : ℕ). tab 16 (λ i. get_or d.lens (k * 16 + i % 16) 0)) (key-mod dir x e h)

pub key-ep : (d : Driver) (dir dir' : Dir) (x e : ℕ) → key dir x ≡ key dir' e → ep_on d dir x ≡ ep_on d dir' e
unfolding ep_on
key-ep d dir dir' x e h = ap (λ (k : ℕ). get_or d.eps k no_ep) h

-- ---- the recorded lengths

pub lens-length : (d : Driver) (dir : Dir) (e : ℕ) → length (lens_of d dir e) ≡ 16
lens-length d dir e = length-tab (λ i. len_on d dir e i) 16

pub lens-at : (d : Driver) (dir : Dir) (e i : ℕ) → i < 16 → get_or (lens_of d dir e) i 0 ≡ len_on d dir e i
lens-at d dir e i h = get_d-tab (λ j. len_on d dir e j) 16 i 0 h

len_key-slot : (dir : Dir) (e i j : ℕ) → i < 16 → j < 16 → j ≢ i → len_key dir e j ≢ len_key dir e i
unfolding len_key
len_key-slot dir e i j h l n z = n (omega arith)

len_key-key : (dir dir' : Dir) (e e' i j : ℕ) → key dir' e' ≢ key dir e → len_key dir' e' j ≢ len_key dir e i
unfolding len_key
len_key-key dir dir' e e' i j n z = n (omega arith)

module _ (d : Driver) (dir : Dir) (e : ℕ) where
  pub lens-set : Sized d → (i v : ℕ) → i < 16 → lens_of (with_len_on d dir e i v) dir e ≡ set (lens_of d dir e) i v
  lens-set s i v h =
      tab-set (λ j. len_on d dir e j) (λ j. len_on (with_len_on d dir e i v) dir e j) 16 i v h (len_on-same d dir e i v s)
      (λ j l n. len_on-other d dir e i v dir e j (len_key-slot dir e i j h l n))

  pub lens-set-other : (i v : ℕ) (dir' : Dir) (e' : ℕ) → key dir' e' ≢ key dir e
      → lens_of (with_len_on d dir e i v) dir' e' ≡ lens_of d dir' e'
  lens-set-other i v dir' e' n =
      tab-ext (λ j. len_on d dir' e' j) (λ j. len_on (with_len_on d dir e i v) dir' e' j) 16
      (λ j l. len_on-other d dir e i v dir' e' j (len_key-key dir dir' e e' i j n))

  pub lens-on : (r : EpState) (dir' : Dir) (e' : ℕ) → lens_of (with_on d dir e r) dir' e' ≡ lens_of d dir' e'
  unfolding with_on len_on
  lens-on r dir' e' = refl

  pub ep-len : (i v : ℕ) (dir' : Dir) (e' : ℕ) → ep_on (with_len_on d dir e i v) dir' e' ≡ ep_on d dir' e'
  unfolding with_len_on ep_on
  ep-len i v dir' e' = refl

-- ---- the stamps

pub stamps-mod : (d : Driver) (x e : ℕ) → x % 16 ≡ e % 16 → slot_stamps d x ≡ slot_stamps d e
unfolding stamp_on stamp_key
stamps-mod d x e h = ap (λ (k : ℕ). tab 16 (λ i. get_or d.stamps (k * 16 + i % 16) 0)) h

pub stamps-length : (d : Driver) (e : ℕ) → length (slot_stamps d e) ≡ 16
stamps-length d e = length-tab (λ i. stamp_on d e i) 16

pub stamps-at : (d : Driver) (e i : ℕ) → i < 16 → get_or (slot_stamps d e) i 0 ≡ stamp_on d e i
stamps-at d e i h = get_d-tab (λ j. stamp_on d e j) 16 i 0 h

-- records and lengths have none
pub stamps-on : (d : Driver) (dir : Dir) (e : ℕ) (r : EpState) (x : ℕ) → slot_stamps (with_on d dir e r) x
    ≡ slot_stamps d x
unfolding with_on stamp_on
stamps-on d dir e r x = refl

pub stamps-len : (d : Driver) (dir : Dir) (e i v x : ℕ) → slot_stamps (with_len_on d dir e i v) x ≡ slot_stamps d x
unfolding with_len_on stamp_on
stamps-len d dir e i v x = refl

module _ (d : Driver) (e : ℕ) where
  pub stamps-set : Sized d → (i v : ℕ) → i < 16 → slot_stamps (with_stamp_on d e i v) e ≡ set (slot_stamps d e) i v
  stamps-set s i v h =
      tab-set (λ j. stamp_on d e j) (λ j. stamp_on (with_stamp_on d e i v) e j) 16 i v h (stamp_on-same d e i v s)
      (λ j l n. stamp_on-other d e i v e j (λ z. n (omega (arith, (stamp_key-same e j e i z).1))))

  pub stamps-set-other : (i v x : ℕ) → key Out x ≢ key Out e → slot_stamps (with_stamp_on d e i v) x ≡ slot_stamps d x
  unfolding key
  stamps-set-other i v x n = tab-ext (λ j. stamp_on d x j) (λ j. stamp_on (with_stamp_on d e i v) x j) 16
      (λ j l. stamp_on-other d e i v x j (λ z. n (stamp_key-same x j e i z).0))

  pub ep-stamp : (i v : ℕ) (dir : Dir) (x : ℕ) → ep_on (with_stamp_on d e i v) dir x ≡ ep_on d dir x
  unfolding with_stamp_on ep_on
  ep-stamp i v dir x = refl

  pub lens-stamp : (i v : ℕ) (dir : Dir) (x : ℕ) → lens_of (with_stamp_on d e i v) dir x ≡ lens_of d dir x
  unfolding with_stamp_on len_on
  lens-stamp i v dir x = refl

  pub stamps-clear-other : (x : ℕ) → key Out x ≢ key Out e → slot_stamps (clear_stamps d e) x ≡ slot_stamps d x
  unfolding key
  stamps-clear-other x n = tab-ext (λ j. stamp_on d x j) (λ j. stamp_on (clear_stamps d e) x j) 16
      (λ j l. cleared-other d e x j n)

  pub ep-clear : (dir : Dir) (x : ℕ) → ep_on (clear_stamps d e) dir x ≡ ep_on d dir x
  unfolding clear_stamps ep_on
  ep-clear dir x = refl

  pub lens-clear : (dir : Dir) (x : ℕ) → lens_of (clear_stamps d e) dir x ≡ lens_of d dir x
  unfolding clear_stamps len_on
  lens-clear dir x = refl
