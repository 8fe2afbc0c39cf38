-- Scripts, what they may do to a state, and their run over one
use Rattle.std.specs.Prelude.{Bool, false, cond, List, ℕ, zero, suc}
use Rattle.regs.specs.declared.Access.{Access}
use Rattle.regs.specs.declared.Access.TheVariants.{Read, Write, Receive, Transmit, Ep0Dma, Wait, Callback}
use Rattle.regs.specs.declared.Reg.{Reg}
use Rattle.regs.specs.declared.Reg.TheVariants.{EpRxCtrl, EpType, EpConfig, EpBufMod, IntFg}
use Rattle.regs.specs.declared.Dir.{Dir}
use Rattle.regs.specs.declared.Dir.TheVariants.{Out, In}
use Rattle.script.specs.Tree as tree
use Rattle.script.specs.Tree.{ends, asks, bind_out}
use Rattle.script.specs.Cells.{Cell, Val}

-- what is asked of a ring or of slots
pub data Test : Type 0 where
  changed : ℕ → Test  -- OUT e: the armed slot's first word is not the mark
  waiting : Dir → ℕ → Test  -- a packet is queued
  room : ℕ → ℕ → Test  -- IN e, isochronous: a slot is free for so many bytes
  opened : ℕ → Test  -- OUT e: a packet is open

-- numbers
pub data Look : Type 0 where
  marked : ℕ → Look  -- OUT e: the length that the marks of the armed slot show
  next_len_lem : Dir → ℕ → Look  -- the length of the oldest packet
  next_stamp_lem : ℕ → Look  -- OUT e: the stamp of the oldest packet
  setup_word : ℕ → Look  -- word 0 or 1 of EP0's buffer

-- bytes
pub data Fetch : Type 0 where
  oldest : ℕ → Fetch  -- OUT e: the oldest packet
  received : ℕ → ℕ → Fetch  -- OUT e, not isochronous: so many bytes of its slot
  received0 : ℕ → Fetch  -- so many bytes of EP0's slot
  gathered : Fetch  -- the codes of the wake-ups since the operation's begin, in their order

-- changes
pub data Act : Type 0 where
  complete : ℕ → Act  -- IN e: the loaded packet went out
  reset_ring : Dir → ℕ → Act  -- no packet waits; of an isochronous OUT, whose ring is reset in a row, nothing
  set_enabled_lem : Dir → ℕ → Bool → Act  -- the kept ep_config bit; of an isochronous OUT, nothing
  fill : ℕ → List ℕ → Act  -- IN e, not isochronous: bytes into its slot
  fill0 : List ℕ → Act  -- bytes into EP0's slot
  open_oldest : ℕ → Act  -- OUT e: the oldest packet is open
  close_oldest : ℕ → Act  -- OUT e: the open packet is read
  take_oldest : ℕ → Act  -- OUT e: the oldest packet is read
  enqueue : ℕ → List ℕ → Act  -- IN e: a packet into the next free slot
  allocate : Dir → ℕ → ℕ → ℕ → ℕ → Act  -- kind, address, maximum, interval
  allocate0 : ℕ → Act  -- EP0's buffer, its maximum
  no_wakes : Act  -- an operation begins, with no wake-up
  waken : List ℕ → Act  -- the tasks of these codes are woken, one after the other

-- changes in the call that hands out the address they come to
pub data DmaStep : Type 0 where
  arrive : ℕ → ℕ → DmaStep  -- OUT e: a packet of that length; the head's slot is armed, the next one, or the same where it was turned away
  send : ℕ → DmaStep  -- IN e: the oldest packet is being sent
  place : Dir → ℕ → DmaStep  -- the endpoint's buffer
  place0 : DmaStep  -- EP0's buffer

abbrev pub dma : Dir → ℕ → ℕ → Access
dma Out e x = Receive e x
dma In e x = Transmit e x

abbrev pub dma_step_ask : DmaStep → ℕ → Access
dma_step_ask (arrive e n) x = Receive e x
dma_step_ask (send e) x = Transmit e x
dma_step_ask (place d e) x = dma d e x
dma_step_ask place0 x = Ep0Dma x

-- accesses in a row, between which no other call changes anything. A step may hand out a number that the state
-- gives: an address, or a kept word
pub data Burst : Type 0 where
  switch : ℕ → Bool → Burst  -- an isochronous OUT that is enabled or disabled: its record reset and every slot marked, from the last
  bus_reset_lem : Burst  -- every endpoint disabled, every record reset

-- the number of a row's first step; the last is 0
abbrev pub last_of : Burst → ℕ
last_of (switch e on) = 18
last_of bus_reset_lem = 3

-- step n of a switch: 18 to 3 the receive addresses of slots 15 to 0
abbrev pub switch_ask : ℕ → Bool → ℕ → ℕ → Access
switch_ask e on zero x = Write EpConfig 0 x
switch_ask e on (suc zero) x = Write EpType 0 x
switch_ask e on (suc (suc zero)) x = Write EpRxCtrl e (cond on 1 2)
switch_ask e on (suc (suc (suc n))) x = Receive e x

abbrev pub reset_ask : ℕ → ℕ → Access
reset_ask zero x = Write IntFg 0 1
reset_ask (suc zero) x = Write EpBufMod 0 0
reset_ask (suc (suc zero)) x = Write EpType 0 0
reset_ask (suc (suc (suc n))) x = Write EpConfig 0 0

abbrev pub burst_ask : Burst → ℕ → ℕ → Access
burst_ask (switch e on) n x = switch_ask e on n x
burst_ask bus_reset_lem n x = reset_ask n x

-- `true`: a script in which no row occurs, as an interrupt's
pub data Script : Bool → Type 0 → Type 1 where
  ret : {i : Bool} {A : Type 0} → A → Script i A
  bind : {i : Bool} {A B : Type 0} → Script i A → (A → Script i B) → Script i B
  test : {i : Bool} {A : Type 0} → Bool → Script i A → Script i A → Script i A
  read_then : {i : Bool} {A : Type 0} → Reg → ℕ → (ℕ → Script i A) → Script i A
  write_then : {i : Bool} {A : Type 0} → Reg → ℕ → ℕ → Script i A → Script i A
  wait_then : {i : Bool} {A : Type 0} → ℕ → Script i A → Script i A
  callback_then : {i : Bool} {A : Type 0} → Script i A → Script i A
  get_then : {i : Bool} {A : Type 0} (c : Cell) → (Val c → Script i A) → Script i A
  put_then : {i : Bool} {A : Type 0} (c : Cell) → Val c → Script i A → Script i A
  is_then : {i : Bool} {A : Type 0} → Test → (Bool → Script i A) → Script i A
  look_then : {i : Bool} {A : Type 0} → Look → (ℕ → Script i A) → Script i A
  fetch_then : {i : Bool} {A : Type 0} → Fetch → (List ℕ → Script i A) → Script i A
  act_then : {i : Bool} {A : Type 0} → Act → Script i A → Script i A
  hand_then : {i : Bool} {A : Type 0} → DmaStep → Script i A → Script i A
  row_then : {A : Type 0} → Burst → Script false A → Script false A

infixr 20 ◌>>=◌ ◌>>◌
abbrev pub ◌>>=◌ : {i : Bool} {A B : Type 0} → Script i A → (A → Script i B) → Script i B
◌>>=◌ m f = bind m f

abbrev pub ◌>>◌ : {i : Bool} {A B : Type 0} → Script i A → Script i B → Script i B
◌>>◌ p q = bind p (λ _. q)

abbrev pub done : {i : Bool} → Script i Unit
done = ret tt

abbrev pub when : {i : Bool} → Bool → Script i Unit → Script i Unit
when b p = test b p (ret tt)

abbrev pub read : {i : Bool} → Reg → ℕ → Script i ℕ
read r e = read_then r e ret

abbrev pub write : {i : Bool} → Reg → ℕ → ℕ → Script i Unit
write r e v = write_then r e v (ret tt)

abbrev pub wait : {i : Bool} → ℕ → Script i Unit
wait n = wait_then n (ret tt)

abbrev pub callback : {i : Bool} → Script i Unit
callback = callback_then (ret tt)

abbrev pub get : {i : Bool} (c : Cell) → Script i (Val c)
get c = get_then c ret

abbrev pub put : {i : Bool} (c : Cell) → Val c → Script i Unit
put c v = put_then c v (ret tt)

abbrev pub is : {i : Bool} → Test → Script i Bool
is q = is_then q ret

abbrev pub look : {i : Bool} → Look → Script i ℕ
look q = look_then q ret

abbrev pub fetch : {i : Bool} → Fetch → Script i (List ℕ)
fetch q = fetch_then q ret

abbrev pub act : {i : Bool} → Act → Script i Unit
act q = act_then q (ret tt)

abbrev pub hand : {i : Bool} → DmaStep → Script i Unit
hand q = hand_then q (ret tt)

abbrev pub row : Burst → Script false Unit
row g = row_then g (ret tt)

-- the operations of a state
pub record Ops (S : Type 0) : Type 0 where
  pub get : (c : Cell) → S → Val c
  pub put : (c : Cell) → Val c → S → S
  pub is : Test → S → Bool
  pub look : Look → S → ℕ
  pub fetch : Fetch → S → List ℕ
  pub act : Act → S → S
  pub hand : DmaStep → S → ℕ × S
  pub row : Burst → ℕ → S → ℕ × S

abbrev pub rows : {S A : Type 0} → Ops S → Burst → ℕ → (S → tree.Out S A) → S → tree.Out S A
rows O g zero k s = asks (burst_ask g zero (O.row g zero s).0) (O.row g zero s).1 (λ _ t. k t)
rows O g (suc n) k s = asks (burst_ask g (suc n) (O.row g (suc n) s).0) (O.row g (suc n) s).1 (λ _ t. rows O g n k t)

abbrev pub run : {S : Type 0} {i : Bool} {A : Type 0} → Ops S → Script i A → S → tree.Out S A
run O (ret a) s = ends a s
run O (bind p f) s = bind_out (run O p s) (λ a t. run O (f a) t)
run O (test b p q) s = cond b (run O p s) (run O q s)
run O (read_then r e k) s = asks (Read r e) s (λ v t. run O (k v) t)
run O (write_then r e v p) s = asks (Write r e v) s (λ _ t. run O p t)
run O (wait_then n p) s = asks (Wait n) s (λ _ t. run O p t)
run O (callback_then p) s = asks Callback s (λ _ t. run O p t)
run O (get_then c k) s = run O (k (O.get c s)) s
run O (put_then c v p) s = run O p (O.put c v s)
run O (is_then q k) s = run O (k (O.is q s)) s
run O (look_then q k) s = run O (k (O.look q s)) s
run O (fetch_then q k) s = run O (k (O.fetch q s)) s
run O (act_then q p) s = run O p (O.act q s)
run O (hand_then q p) s = asks (dma_step_ask q (O.hand q s).0) (O.hand q s).1 (λ _ t. run O p t)
run O (row_then g p) s = rows O g (last_of g) (λ t. run O p t) s
