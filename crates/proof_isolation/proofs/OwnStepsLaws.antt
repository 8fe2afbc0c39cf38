-- What is done for the channel changes nothing but its data: its arrivals, its check
use Rattle.std.specs.Prelude.{Bool, true, false, cond, [], ◌∷◌, ◌≡◌, ℕ, ◌≤◌}
use Rattle.std.proofs.Math.Path.{refl}
use Rattle.std.proofs.Common.{subst, sym, ◌∙◌, arith}
use Rattle.regs.specs.declared.Access.TheVariants.{Read, Receive}
use Rattle.regs.specs.declared.Reg.TheVariants.{IntSt}
use Rattle.regs.specs.Status.{token, token_numbered, is_out}
use Rattle.regs.specs.declared.Dir.TheVariants.{Out}
use Rattle.state.specs.Wakes.{wake_code}
use Rattle.state.specs.Driver.{Driver, ep_on}
use Rattle.ring.specs.Only.{Only}
use Rattle.ring.specs.OnlyLaws.{only-refl, only_wider}
use Rattle.ring.specs.Slot.{slot_addr}
use Rattle.ring.specs.Slots.{slot-from, slot-upto}
use Rattle.ring.specs.Laws.{place-addr, place-trans}
use Rattle.ring.proofs.OutLaws.{armed-alike}
use Rattle.script.specs.declared.Transfer.{Transfer}
use Rattle.script.specs.Tree as tree
use Rattle.script.specs.Tree.{asks, bind_out}
use Rattle.script.specs.Script.{Script, run, test, read, look, when, done, ◌>>◌, ◌>>=◌, arrive, changed, marked, waken}
use Rattle.script.specs.IsoOut.{arriving, entry, arrives, check_one}
use Rattle.script.specs.Simulates.{quiet}
use Rattle.script_ops.specs.Rings.{St, arrived_at, arrive_on}
use Rattle.script_ops.specs.Concrete.{concrete, is_of, look_of, act_on, hand_on}
use Rattle.proof_book.specs.Coupling.{end_of}
use Rattle.proof_book.specs.HeldLaws.{receives}
use Rattle.proof_book.proofs.OutsLaws.{Inner}
use Rattle.proof_book.proofs.ArrivesLaws.{admits, head_addr, arrived-inner, armed-plain, arrived-words}
use Rattle.proof_isolation.specs.EqualExcept.{Beside, Lawful, Channel, LowEquiv, Touched}
use Rattle.proof_isolation.specs.Whose.{sof}
use Rattle.proof_isolation.specs.Apart.{Its, status, receive, Without, ApartBy, Apart, left, owns, PairBy, Pair}
use Rattle.proof_isolation.specs.PairsLaws.{apart_flip, apart-later, past_of}
use Rattle.proof_isolation.specs.LikesLaws.{inner-stays, own-changed, but-refl, like-sym, touch}
use Rattle.proof_isolation.specs.ButsLaws.{lawful-hand}
use Rattle.proof_isolation.proofs.ValuesLaws.{own-wake}
use Rattle.proof_isolation.specs.OutRingsLaws.{len_of, after, marks, given, after-changed, after-ep}

-- ---- an arrival

module _ (c : Channel) (n : ℕ) (s : St) (l : Lawful c.iso quiet s) where
  abbrev x : ℕ
  x = c.number

  abbrev d : Driver
  d = s.0

  own-inner : Inner (ep_on d Out x) (ep_on (after d x n) Out x)
  own-inner =
      let r = ep_on d Out x in
      let k = arrived-inner r in
      subst (λ q. Inner r q) (sym (after-ep l.rest.sized x n))
      (record { place = place-trans k.place (armed-alike _ _).place; plain = armed-plain _ _ ∙ k.plain })

  own-marks : receives d x ≡ true → Only (ep_on d Out x).base (end_of (ep_on d Out x)) s.1
      (marks (ep_on (admits d x n) Out x) s.1)
  own-marks u =
      let r = ep_on d Out x in
      let r1 = ep_on (admits d x n) Out x in
      let g = (given l.rest.sized x n).place in
      let a : head_addr r1 ≡ slot_addr r r1.head = place-addr g r1.head in
      let p = (l.rest.outs x).held.placed in
      only_wider r.base (end_of r) (omega (arith, a, slot-from p r1.head))
      (omega (arith, a, g.stride, slot-upto p r1.head)) (arrived-words l.rest x n u)

  record Own (y : ℕ × St) : Type 0 where
    but : Beside x d y.1.0
    bytes : Only (ep_on d Out x).base (end_of (ep_on d Out x)) s.1 y.1.1

  own_by_lem : (v : Bool) → receives d x ≡ v → Own (cond v (arrived_at x (len_of d x n) s) ((ep_on d Out x).armed_slot, s))
  own_by_lem true u = record {
    but = own-changed (after-changed l.rest.sized x n) (inner-stays own-inner);
    bytes = own-marks u;
  }
  own_by_lem false u = record { but = but-refl x d; bytes = only-refl _ _ s.1 }

  own_both : Own (hand_on (arrive x n) s)
  unfolding arrive_on
  own_both = own_by_lem (receives d x) refl

  pub own_arrives : Touched c quiet s (hand_on (arrive x n) s).1
  own_arrives = record { left = l; right = lawful-hand c (arrive x n) l; but = own_both.but; bytes = own_both.bytes }

-- ---- its check: it may stand at the status reading, or at its receive address, or be past

-- after the status reading
abbrev rest_of : ℕ → ℕ → Script true Unit
rest_of e v = test (arriving v e) done (look (marked e) >>= λ n. arrives e n)

-- the check, by whether the first word changed and the length came with the entry
abbrev checks : {A : Type 0} → ℕ → Transfer → (St → tree.Out St A) → Bool → Bool → St → tree.Out St A
checks x y f b e s = bind_out (run concrete (when b (test e (arrives x y.len) (read IntSt 0 >>= rest_of x))) s)
    (λ _ z. f z)

-- what goes on after its receive address, and after the status reading; `f`: what follows the check
abbrev woken : {A : Type 0} → ℕ → (St → tree.Out St A) → ℕ → St → tree.Out St A
woken x f v s = f (act_on (waken (wake_code Out x ∷ [])) s)

abbrev rested : {A : Type 0} → ℕ → (St → tree.Out St A) → ℕ → St → tree.Out St A
rested x f v s = bind_out (run concrete (rest_of x v) s) (λ _ z. f z)

abbrev at_receive : {A : Type 0} → ℕ → (St → tree.Out St A) → ℕ → St → tree.Out St A
at_receive x f y s = asks (Receive x y) s (woken x f)

abbrev at_status : {A : Type 0} → ℕ → (St → tree.Out St A) → St → tree.Out St A
at_status x f s = asks (Read IntSt 0) s (rested x f)

-- with a status that shows no OUT its receive address is next
rest-its : (x : ℕ) {A : Type 0} (f : St → tree.Out St A) (s : St) → Its x (Read IntSt 0) (rested x f sof s)
unfolding arriving is_out token token_numbered
rest-its x f s = status

-- what follows the check, in the one run and in the other: no access of x's own
module _ {c : Channel} {st : ℕ} {A B : Type 0} (Q : A → B → Type 0) (f : St → tree.Out St A)
    (g : St → tree.Out St B) (h : (s t : St) → LowEquiv c quiet s t → Apart c st true Q (f s) (g t))
    (w : (e : ℕ) → e ≤ c.number → (s : St) → Without e (f s)) (w' : (e : ℕ) → e ≤ c.number → (s : St)
    → Without e (g s)) where
  arrived : (n : ℕ) {s t : St} → LowEquiv c quiet s t → LowEquiv c quiet (hand_on (arrive c.number n) s).1 t
  arrived n {s} l = touch (own_arrives c n s l.left) l

  past-past : {s t : St} → LowEquiv c quiet s t → ApartBy c st true Q true (f s) (g t)
  past-past l = apart-later (h _ _ l)

  receive-past : (y : ℕ) {s t : St} → LowEquiv c quiet s t
      → ApartBy c st true Q true (at_receive c.number f y s) (g t)
  receive-past y {t = t} l = left (refl, λ _. receive) (past_of (g t) (λ e i. w' e i t)) l.left
      (λ v s m. past-past (own-wake c (touch m l)))

  -- what the status says decides
  rest-past : (b : Bool) (n : ℕ) {s t : St} → LowEquiv c quiet s t
      → ApartBy c st true Q true (bind_out (run {i = true} concrete (test b done (arrives c.number n)) s)
      (λ _ z. f z)) (g t)
  rest-past true n l = past-past l
  rest-past false n l = receive-past _ (arrived n l)

  status-past : {s t : St} → LowEquiv c quiet s t → ApartBy c st true Q true (at_status c.number f s) (g t)
  status-past {t = t} l = left (refl, λ s. rest-its c.number f s) (past_of (g t) (λ e i. w' e i t))
      l.left (λ v s m. rest-past (arriving v c.number) (look_of (marked c.number) s) (touch m l))

module _ {c : Channel} {st : ℕ} {A B : Type 0} {Q : A → B → Type 0} {f : St → tree.Out St A} {g : St → tree.Out St B}
    (h : (s t : St) → LowEquiv c quiet s t → Apart c st true Q (f s) (g t)) where
  flipped : (t s : St) → LowEquiv c quiet t s → Apart c st true (λ b a. Q a b) (g t) (f s)
  flipped t s l = apart_flip (h s t (like-sym l))

module _ {c : Channel} {st : ℕ} {A B : Type 0} (Q : A → B → Type 0) (f : St → tree.Out St A)
    (g : St → tree.Out St B) (h : (s t : St) → LowEquiv c quiet s t → Apart c st true Q (f s) (g t))
    (w : (e : ℕ) → e ≤ c.number → (s : St) → Without e (f s)) (w' : (e : ℕ) → e ≤ c.number → (s : St)
    → Without e (g s)) where
  past-receive : (y : ℕ) {s t : St} → LowEquiv c quiet s t
      → ApartBy c st true Q true (f s) (at_receive c.number g y t)
  past-receive y l = apart_flip (receive-past (λ b a. Q a b) g f (flipped h) w' w y (like-sym l))

  past-status : {s t : St} → LowEquiv c quiet s t → ApartBy c st true Q true (f s) (at_status c.number g t)
  past-status l = apart_flip (status-past (λ b a. Q a b) g f (flipped h) w' w (like-sym l))

  receive-receive : (y y' : ℕ) {s t : St} → LowEquiv c quiet s t
      → ApartBy c st true Q true (at_receive c.number f y s) (at_receive c.number g y' t)
  receive-receive y y' l = owns (refl, λ _. receive) (refl, λ _. receive) l (λ v s t m. past-receive y' (own-wake c m))
      (λ v s t m. receive-past Q f g h w w' y (like-sym (own-wake c (like-sym m))))

  rest-receive : (b : Bool) (n y : ℕ) {s t : St} → LowEquiv c quiet s t → ApartBy c st true Q true
      (bind_out (run {i = true} concrete (test b done (arrives c.number n)) s) (λ _ z. f z))
      (at_receive c.number g y t)
  rest-receive true n y l = past-receive y l
  rest-receive false n y l = receive-receive _ y (arrived Q f g h w w' n l)

  status-receive : (y : ℕ) {s t : St} → LowEquiv c quiet s t
      → ApartBy c st true Q true (at_status c.number f s) (at_receive c.number g y t)
  status-receive y l = owns (refl, λ s. rest-its c.number f s) (refl, λ _. receive) l
      (λ v s t m. rest-receive (arriving v c.number) (look_of (marked c.number) s) y m)
      (λ v s t m. status-past Q f g h w w' (like-sym (own-wake c (like-sym m))))

module _ {c : Channel} {st : ℕ} {A B : Type 0} (Q : A → B → Type 0) (f : St → tree.Out St A)
    (g : St → tree.Out St B) (h : (s t : St) → LowEquiv c quiet s t → Apart c st true Q (f s) (g t))
    (w : (e : ℕ) → e ≤ c.number → (s : St) → Without e (f s)) (w' : (e : ℕ) → e ≤ c.number → (s : St)
    → Without e (g s)) where
  receive-status : (y : ℕ) {s t : St} → LowEquiv c quiet s t
      → ApartBy c st true Q true (at_receive c.number f y s) (at_status c.number g t)
  receive-status y l = apart_flip (status-receive (λ b a. Q a b) g f (flipped h) w' w y (like-sym l))

  rest-status : (b : Bool) (n : ℕ) {s t : St} → LowEquiv c quiet s t → ApartBy c st true Q true
      (bind_out (run {i = true} concrete (test b done (arrives c.number n)) s) (λ _ z. f z))
      (at_status c.number g t)
  rest-status true n l = past-status Q f g h w w' l
  rest-status false n l = receive-status _ (arrived Q f g h w w' n l)

module _ {c : Channel} {st : ℕ} {A B : Type 0} (Q : A → B → Type 0) (f : St → tree.Out St A)
    (g : St → tree.Out St B) (h : (s t : St) → LowEquiv c quiet s t → Apart c st true Q (f s) (g t))
    (w : (e : ℕ) → e ≤ c.number → (s : St) → Without e (f s)) (w' : (e : ℕ) → e ≤ c.number → (s : St)
    → Without e (g s)) where
  status-status : {s t : St} → LowEquiv c quiet s t → ApartBy c st true Q true (at_status c.number f s)
      (at_status c.number g t)
  status-status l = owns (refl, λ s. rest-its c.number f s) (refl, λ s. rest-its c.number g s) l
      (λ v s t m. rest-status Q f g h w w' (arriving v c.number) (look_of (marked c.number) s) m)
      (λ v s t m. apart_flip (rest-status (λ b a. Q a b) g f (flipped h) w' w (arriving v c.number)
      (look_of (marked c.number) t) (like-sym m)))

  -- the one at its check's begin, the other past, at its receive address, at its status reading
  module _ (y : Transfer) where
    check-past : (b e : Bool) {s t : St} → LowEquiv c quiet s t
        → ApartBy c st true Q true (checks c.number y f b e s) (g t)
    check-past false e l = past-past Q f g h w w' l
    check-past true true l = receive-past Q f g h w w' _ (arrived Q f g h w w' y.len l)
    check-past true false l = status-past Q f g h w w' l

    check-receive : (z : ℕ) (b e : Bool) {s t : St}
        → LowEquiv c quiet s t → ApartBy c st true Q true (checks c.number y f b e s) (at_receive c.number g z t)
    check-receive z false e l = past-receive Q f g h w w' z l
    check-receive z true true l = receive-receive Q f g h w w' _ z (arrived Q f g h w w' y.len l)
    check-receive z true false l = status-receive Q f g h w w' z l

    check-status : (b e : Bool) {s t : St} → LowEquiv c quiet s t
        → ApartBy c st true Q true (checks c.number y f b e s) (at_status c.number g t)
    check-status false e l = past-status Q f g h w w' l
    check-status true true l = receive-status Q f g h w w' _ (arrived Q f g h w w' y.len l)
    check-status true false l = status-status l

-- in both: the two checks need not go alike
module _ {c : Channel} {st : ℕ} {A B : Type 0} (Q : A → B → Type 0) (f : St → tree.Out St A) (g : St → tree.Out St B)
    (h : (s t : St) → LowEquiv c quiet s t → Apart c st true Q (f s) (g t))
    (w : (e : ℕ) → e ≤ c.number → (s : St) → Without e (f s)) (w' : (e : ℕ) → e ≤ c.number → (s : St)
    → Without e (g s)) (y y' : Transfer) where
  check-check : (b b' e e' : Bool) {s t : St} → LowEquiv c quiet s t
      → ApartBy c st true Q true (checks c.number y f b e s) (checks c.number y' g b' e' t)
  check-check b false e e' l = check-past Q f g h w w' y b e l
  check-check b true e true {s} {t} l = check-receive Q f g h w w' y _ b e
      (like-sym (arrived (λ b a. Q a b) g f (flipped h) w' w y'.len (like-sym l)))
  check-check b true e false l = check-status Q f g h w w' y b e l

pub p-own-check : {c : Channel} {st : ℕ} {A B : Type 0} {Q : A → B → Type 0}
    (y y' : Transfer) (iso : Bool) {p : Script true A} {p' : Script true B}
    → Pair c st Q p p' → ((e : ℕ) → e ≤ c.number → (s : St) → Without e (run concrete p s))
    → ((e : ℕ) → e ≤ c.number → (s : St) → Without e (run concrete p' s))
    → PairBy c st true Q (check_one y iso c.number >> p) (check_one y' iso c.number >> p')
p-own-check {c} {Q = Q} y y' iso {p} {p'} h w w' = record {
  on = λ s t l. check-check Q (λ z. run concrete p z) (λ z. run concrete p' z) (λ s t l. h.on s t l) w w' y y'
      (is_of (changed c.number) s) (is_of (changed c.number) t) (entry y iso c.number) (entry y' iso c.number)
      l;
}
