-- Two runs that line up by the accesses not made for x
use Rattle.std.specs.Prelude.{Bool, true, false, ◌≡◌, ℕ, ◌≤◌, eqb}
use Rattle.regs.specs.declared.Access.{Access}
use Rattle.regs.specs.declared.Access.TheVariants.{Read, Write, Receive, Transmit, Ep0Dma, Wait, Callback}
use Rattle.regs.specs.declared.Reg.{Reg}
use Rattle.regs.specs.declared.Reg.TheVariants.{IntFg, IntSt, MisSt, RxLen, FrameNo, Ctrl, IntEn, DevAd, HostCtrl}
use Rattle.regs.specs.declared.Reg.TheVariants.{EpConfig, EpType, EpBufMod, EpMaxLen, EpTLen, EpRxCtrl, EpTxCtrl}
use Rattle.script.specs.Tree.{Out, ends, asks}
use Rattle.script.specs.Script.{Script, run}
use Rattle.script.specs.IsoOut.{arriving}
use Rattle.script.specs.Every.{same_reg}
use Rattle.script.specs.Simulates.{Phase, quiet, Fits}
use Rattle.script_ops.specs.Rings.{St}
use Rattle.script_ops.specs.Concrete.{concrete}
use Rattle.proof_isolation.specs.EqualExcept.{Lawful, Channel, LowEquiv, Touched}
use Rattle.proof_isolation.specs.Whose.{receives, sof}

-- "with the status word and the other readings the same throughout each interrupt", but for "the lengths reported for
-- its packets": where the status word `st` shows OUT for x
abbrev pub Reads : ℕ → ℕ → Reg → ℕ → ℕ → Type 0
Reads x st IntSt v v' = (v ≡ st) × (v' ≡ st)
Reads x st RxLen v v' = arriving st x ≡ false → v ≡ v'
Reads x st IntFg v v' = v ≡ v'
Reads x st MisSt v v' = v ≡ v'
Reads x st FrameNo v v' = v ≡ v'
Reads x st Ctrl v v' = v ≡ v'
Reads x st IntEn v v' = v ≡ v'
Reads x st DevAd v v' = v ≡ v'
Reads x st HostCtrl v v' = v ≡ v'
Reads x st EpConfig v v' = v ≡ v'
Reads x st EpType v v' = v ≡ v'
Reads x st EpBufMod v v' = v ≡ v'
Reads x st EpMaxLen v v' = v ≡ v'
Reads x st EpTLen v v' = v ≡ v'
Reads x st EpRxCtrl v v' = v ≡ v'
Reads x st EpTxCtrl v v' = v ≡ v'

-- what the two continues of an access bring: after a reading its values; after anything else the number is ignored
abbrev pub Brings : ℕ → ℕ → Access → ℕ → ℕ → Type 0
Brings x st (Read r e) v v' = Reads x st r v v'
Brings x st (Write r e y) v v' = Unit {0}
Brings x st (Receive e y) v v' = Unit {0}
Brings x st (Transmit e y) v v' = Unit {0}
Brings x st (Ep0Dma y) v v' = Unit {0}
Brings x st (Wait n) v v' = Unit {0}
Brings x st Callback v v' = Unit {0}

-- by what follows, an access may be made for x (`made_for`); all others are not
abbrev pub ownable : ℕ → Access → Bool
ownable x (Receive e y) = eqb e x
ownable x (Read r e) = same_reg r IntSt
ownable x (Write r e y) = false
ownable x (Transmit e y) = false
ownable x (Ep0Dma y) = false
ownable x (Wait n) = false
ownable x Callback = false

-- the next access is not x's receive address
pub data Next (x : ℕ) {A : Type 0} : Out St A → Type 0 where
  next : {q : Access} {s : St} {k : ℕ → St → Out St A} → receives x q ≡ false → Next x (asks q s k)

-- access q is not made for x, or is: `o`, what would go on were `sof` read
pub data Another (x : ℕ) {A : Type 0} : Access → Out St A → Type 0 where
  never : {q : Access} {o : Out St A} → ownable x q ≡ false → Another x q o
  elsewhere : {r : Reg} {e : ℕ} {o : Out St A} → Next x o → Another x (Read r e) o

pub data Its (x : ℕ) {A : Type 0} : Access → Out St A → Type 0 where
  status : {y : ℕ} {s : St} {k : ℕ → St → Out St A} → Its x (Read IntSt 0) (asks (Receive x y) s k)
  receive : {y : ℕ} {o : Out St A} → Its x (Receive x y) o

-- a reading of the status
abbrev pub status_read : Access → Bool
status_read (Read r e) = same_reg r IntSt
status_read (Receive e y) = false
status_read (Write r e y) = false
status_read (Transmit e y) = false
status_read (Ep0Dma y) = false
status_read (Wait n) = false
status_read Callback = false

-- the next accesses are receive addresses of one endpoint, or none is a receive address
pub data SameNext {A B : Type 0} : Out St A → Out St B → Type 0 where
  same_next : {q q' : Access} {s t : St} {k : ℕ → St → Out St A} {k' : ℕ → St → Out St B}
      → ((x : ℕ) → receives x q ≡ receives x q')
      → SameNext (asks q s k) (asks q' t k')

-- access q is made for the same endpoint in both: `o`, `u`, what would go on were `sof` read
pub data Matched {A B : Type 0} (q : Access) : Out St A → Out St B → Type 0 where
  plain : {o : Out St A} {u : Out St B} → status_read q ≡ false → Matched q o u
  nexts : {o : Out St A} {u : Out St B} → SameNext o u → Matched q o u

-- it stands at no access that is made for x or for an endpoint below it
pub data Past (x : ℕ) {A : Type 0} : Out St A → Type 0 where
  gone : {a : A} {s : St} → Past x (ends a s)
  waits : {q : Access} {s : St} {k : ℕ → St → Out St A} → ((e : ℕ) → e ≤ x → (s : St) → Another e q (k sof s))
      → Past x (asks q s k)

-- no access that is made for x comes any more, whatever is read and whatever becomes of the state
pub data Without (x : ℕ) {A : Type 0} : Out St A → Type 0 where
  without_end : {a : A} {s : St} → Without x (ends a s)
  without_ask : {q : Access} {s : St} {k : ℕ → St → Out St A} → ((t : St) → Another x q (k sof t))
      → ((v : ℕ) (t : St) → Without x (k v t))
      → Without x (asks q s k)

-- whatever the state: an access of an interrupt is not made for x; is
abbrev pub Shared : Bool → ℕ → {A : Type 0} → Access → (ℕ → St → Out St A) → Type 0
Shared i x q k = i ≡ true → (s : St) → Another x q (k sof s)

abbrev pub Own : Bool → ℕ → {A : Type 0} → Access → (ℕ → St → Out St A) → Type 0
Own i x q k = (i ≡ true) × ((s : St) → Its x q (k sof s))

module _ (c : Channel) (st : ℕ) where
  -- two outcomes: both end, or hand out the same access, in states that are the same but for x's data, and go on so
  -- whatever the same is read, whatever becomes of the states so long as they stay so; or one of them hands out an
  -- access of x's own, not the other, and goes on so alone, whatever is read then and whatever becomes of x's data; or
  -- both hand out one of x's own, and either goes on, whatever becomes of the states so long as they stay so. An access
  -- may stand in a row of accesses (`Phase`), but in no interrupt's (`Fits`). `false`: no access of x's own comes any
  -- more
  pub data ApartBy (i : Bool) {A B : Type 0} (Q : A → B → Type 0) : Bool → Out St A → Out St B → Type 0 where
    end : {m : Bool} {a : A} {b : B} {s t : St} → Q a b → LowEquiv c quiet s t → ApartBy i Q m (ends a s) (ends b t)
    both : {m : Bool} {q : Access} {s t : St} {k : ℕ → St → Out St A} {k' : ℕ → St → Out St B} (φ : Phase)
        → Fits i φ × (i ≡ true → (s t : St) → Matched q (k sof s) (k' sof t)) → Shared i c.number q k
        → Shared i c.number q k' → LowEquiv c φ s t
        → ((v v' : ℕ) (s t : St) → Brings c.number st q v v' → LowEquiv c φ s t → ApartBy i Q m (k v s) (k' v' t))
        → ApartBy i Q m (asks q s k) (asks q t k')
    left : {q : Access} {s : St} {k : ℕ → St → Out St A} {u : Out St B} → Own i c.number q k → Past c.number u
        → Lawful c.iso quiet s
        → ((v : ℕ) (s' : St) → Touched c quiet s s' → ApartBy i Q true (k v s') u) → ApartBy i Q true (asks q s k) u
    right : {q : Access} {t : St} {k : ℕ → St → Out St B} {o : Out St A} → Own i c.number q k → Past c.number o
        → Lawful c.iso quiet t
        → ((v : ℕ) (t' : St) → Touched c quiet t t' → ApartBy i Q true o (k v t')) → ApartBy i Q true o (asks q t k)
    owns : {q q' : Access} {s t : St} {k : ℕ → St → Out St A} {k' : ℕ → St → Out St B} → Own i c.number q k
        → Own i c.number q' k' → LowEquiv c quiet s t
        → ((v : ℕ) (s t : St) → LowEquiv c quiet s t → ApartBy i Q true (k v s) (asks q' t k'))
        → ((v : ℕ) (s t : St) → LowEquiv c quiet s t → ApartBy i Q true (asks q s k) (k' v t))
        → ApartBy i Q true (asks q s k) (asks q' t k')

  abbrev pub Apart : (i : Bool) {A B : Type 0} (Q : A → B → Type 0) → Out St A → Out St B → Type 0
  Apart i Q o u = ApartBy i Q false o u

  -- two scripts that run so from all such states
  pub record PairBy (m : Bool) {i : Bool} {A B : Type 0} (Q : A → B → Type 0) (p : Script i A) (p' : Script i B) : Type
      0 where
    pub on : (s t : St) → LowEquiv c quiet s t → ApartBy i Q m (run concrete p s) (run concrete p' t)

  abbrev pub Pair : {i : Bool} {A B : Type 0} (Q : A → B → Type 0) → Script i A → Script i B → Type 0
  Pair Q p p' = PairBy false Q p p'
