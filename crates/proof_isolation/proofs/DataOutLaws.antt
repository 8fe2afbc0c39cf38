-- The control pipe's requests, and a data_out: its bytes lie within EP0's buffer
use Rattle.std.specs.Prelude.{Bool, ◌≡◌, ℕ, ◌+◌, ◌≤◌, eqb, ltb}
use Rattle.std.proofs.Math.Bool.{true, false}
use Rattle.std.proofs.Math.Path.{refl, subst}
use Rattle.std.proofs.Common.{ap, ◌∙◌, mul-le-mul_right, arith, eqb-true, ltb-false}
use Rattle.regs.specs.declared.Dir.TheVariants.{Out}
use Rattle.state.specs.declared.Globals.{Globals}
use Rattle.state.specs.declared.Control.{Control}
use Rattle.state.specs.Driver.{ep_on, with_on}
use Rattle.ring.specs.Copies.{bytes_at}
use Rattle.script.specs.Cells.{EpCore, ep-cell, control-cell}
use Rattle.script.specs.Script.{Script, run, bind, test, ret, put, fetch, ◌>>◌, received0}
use Rattle.script.specs.Statics.{is_on, with_ready, modify_ep}
use Rattle.script.specs.Answers.{Answer, Refused, NotYet, Done, unless}
use Rattle.script.specs.Control.{DATA-OUT, request_of, ends_control, unless_setup, within_maximum, requested, aborted_else}
use Rattle.script.specs.Control.{take_out}
use Rattle.script.specs.Simulates.{quiet}
use Rattle.script_ops.specs.Records.{plain_of}
use Rattle.script_ops.specs.Rings.{St}
use Rattle.script_ops.specs.Concrete.{concrete, fetch_of, put_on}
use Rattle.proof_book.specs.Coupling.{ep0_room}
use Rattle.proof_isolation.specs.EqualExcept.{Channel, LowEquiv}
use Rattle.proof_isolation.specs.Apart.{Apart, end, Pair}
use Rattle.proof_isolation.specs.PairsLaws.{p_ret, p-same, p-then, p_test}
use Rattle.proof_isolation.specs.ButsLaws.{ep0-same}
use Rattle.proof_isolation.proofs.ValuesLaws.{ep0-other, plain_other, record-kept, p-modify-ep, p-globals}
use Rattle.proof_isolation.specs.Answers.{SameAnswer, same}
use Rattle.proof_isolation.proofs.AsidesLaws.{bytes_same}
use Rattle.proof_isolation.proofs.RowsLaws.{p-unless}
use Rattle.proof_isolation.proofs.KeptLaws.{control-kept, p-put-control, p-control}

-- the parts of its poll
abbrev taken : {i : Bool} → ℕ → EpCore → Script i Answer
taken n v = test (ltb n v.len) (ends_control (Refused 10))
    (bind (fetch (received0 v.len)) (λ w. ends_control (Done w)))

abbrev pub polls : {i : Bool} → ℕ → Control → Script i Answer
polls n v = test (eqb v.length n) (take_out n) (modify_ep Out 0 (with_ready 0) >> ends_control (Refused 10))

module _ {c : Channel} {st : ℕ} {i : Bool} where
  pub p-ends-control : (a : Answer) → Pair c st {i = i} (SameAnswer c.number) (ends_control a) (ends_control a)
  p-ends-control a = p-then (p-put-control c _ refl) (p_ret (same a))

  pub p-unless-setup : {p p' : Script i Answer} → Pair c st (SameAnswer c.number) p p'
      → Pair c st (SameAnswer c.number) (unless_setup p) (unless_setup p')
  p-unless-setup h = p-globals c (λ g _. p-unless _ 9 h)

  pub p-within : (n : ℕ) {p p' : Script i Answer} → Pair c st (SameAnswer c.number) p p'
      → Pair c st (SameAnswer c.number) (within_maximum n p) (within_maximum n p')
  p-within n h = p-globals c (λ g _. p-unless _ 10 h)

  pub p-requested : (sort : ℕ) {p : Control → Script i Answer}
      → ((v : Control) → Pair c st (SameAnswer c.number) (p v) (p v))
      → Pair c st (SameAnswer c.number) (requested sort p) (requested sort p)
  p-requested sort h = p-same (p-control c) (λ v. p_test _ (λ _. h v) (λ _. p_ret (same _)))

  pub p-aborted : {p p' : Script i Answer} → Pair c st (SameAnswer c.number) p p'
      → Pair c st (SameAnswer c.number) (aborted_else p) (aborted_else p')
  p-aborted h = p-globals c (λ g _. p_test _ (λ _. p-ends-control _) (λ _. h))

module _ (c : Channel) where
  -- ---- its begin: the length is within EP0's maximum where the request is made

  module _ {st : ℕ} {i : Bool} (n : ℕ) {p : Script i Answer} (h : Pair c st (SameAnswer c.number) p p) where
    made : (s t : St) → LowEquiv c quiet s t → n ≤ s.0.globals.ep0_max → (b : Bool)
        → Apart c st i (SameAnswer c.number) (run concrete
        (unless b 9 (put control-cell (request_of DATA-OUT n) >> p)) s)
        (run concrete (unless b 9 (put control-cell (request_of DATA-OUT n) >> p)) t)
    made s t l m true = end (same (Refused 9)) l
    made s t l m false = h.on _ _ (control-kept c (request_of DATA-OUT n) s t (λ _. m) l)

    setup : (s t : St) → LowEquiv c quiet s t → n ≤ s.0.globals.ep0_max
        → Apart c st i (SameAnswer c.number) (run concrete
        (unless_setup (put control-cell (request_of DATA-OUT n) >> p)) s)
        (run concrete (unless_setup (put control-cell (request_of DATA-OUT n) >> p)) t)
    setup s t l m = subst
        (λ (g : Globals). Apart c st i (SameAnswer c.number)
        (run concrete (unless_setup (put control-cell (request_of DATA-OUT n) >> p)) s)
        (run concrete (unless (is_on g.setup_ready) 9 (put control-cell (request_of DATA-OUT n) >> p)) t))
        l.but.globals (made s t l m (is_on s.0.globals.setup_ready))

    within : (s t : St) → LowEquiv c quiet s t → (b : Bool) → ltb s.0.globals.ep0_max n ≡ b
        → Apart c st i (SameAnswer c.number) (run concrete
        (unless b 10 (unless_setup (put control-cell (request_of DATA-OUT n) >> p))) s)
        (run concrete (unless b 10 (unless_setup (put control-cell (request_of DATA-OUT n) >> p))) t)
    within s t l true z = end (same (Refused 10)) l
    within s t l false z = setup s t l (ltb-false s.0.globals.ep0_max n z)

    pub p-begin-data-out : Pair c st (SameAnswer c.number)
        (within_maximum n (unless_setup (put control-cell (request_of DATA-OUT n) >> p)))
        (within_maximum n (unless_setup (put control-cell (request_of DATA-OUT n) >> p)))
    p-begin-data-out = record {
      on = λ s t l. subst
          (λ (g : Globals). Apart c st i (SameAnswer c.number)
          (run concrete (within_maximum n (unless_setup (put control-cell (request_of DATA-OUT n) >> p))) s)
          (run concrete (unless (ltb g.ep0_max n) 10 (unless_setup (put control-cell (request_of DATA-OUT n) >> p)))
          t))
          l.but.globals (within s t l (ltb s.0.globals.ep0_max n) refl);
    }

  -- ---- its poll

  -- so many bytes of EP0's buffer
  received-same : (s t : St) → LowEquiv c quiet s t → (k : ℕ) → k ≤ s.0.globals.ep0_max → fetch_of (received0 k) s
      ≡ fetch_of (received0 k) t
  received-same s t l k m =
      let g = s.0.globals in
      let a = s.0.allocator in
      let R = l.left.rest in
      let room : ep0_room g a ≡ a.size = rw l.left.stage refl in
      let upto = mul-le-mul_right a.size R.sound.room in
      bytes_same s.1 t.1 g.ep0_buf k l.bytes.long
      (omega (arith, R.long, R.ep0_below, R.ep0_least, upto, m))
      (ep0-same l g.ep0_buf (g.ep0_buf + k) (omega arith) (omega (arith, R.ep0_least, room, m)))
      ∙ ap (λ (g : Globals). bytes_at t.1 g.ep0_buf k) l.but.globals

  module _ {st : ℕ} {i : Bool} (n : ℕ) where
    tail : (v : EpCore) (b : Bool) → ltb n v.len ≡ b → (s t : St) → LowEquiv c quiet s t → n
        ≤ s.0.globals.ep0_max
        → Apart c st i (SameAnswer c.number)
        (run {i = i} concrete (test b (ends_control (Refused 10))
        (bind (fetch (received0 v.len)) (λ w. ends_control (Done w)))) s)
        (run {i = i} concrete (test b (ends_control (Refused 10))
        (bind (fetch (received0 v.len)) (λ w. ends_control (Done w)))) t)
    tail v true z s t l m = (p-ends-control {i = i} (Refused 10)).on s t l
    tail v false z s t l m =
        subst
        (λ w. Apart c st i (SameAnswer c.number) (run {i = i} concrete
        (ends_control (Done (fetch_of (received0 v.len) s))) s)
        (run {i = i} concrete (ends_control (Done w)) t))
        (received-same s t l v.len (omega (arith, m, ltb-false n v.len z)))
        ((p-ends-control {i = i} (Done _)).on s t l)

    ready : (v : EpCore) (b : Bool) (s t : St) → LowEquiv c quiet s t → n ≤ s.0.globals.ep0_max
        → Apart c st i (SameAnswer c.number)
        (run {i = i} concrete (test b (modify_ep Out 0 (with_ready 0) >> taken n v) (aborted_else (ret NotYet))) s)
        (run {i = i} concrete (test b (modify_ep Out 0 (with_ready 0) >> taken n v) (aborted_else (ret NotYet))) t)
    unfolding with_on
    ready v true s t l m =
        let w = with_ready 0 (plain_of (ep_on s.0 Out 0)) in
        subst
        (λ q. Apart c st i (SameAnswer c.number) (run {i = i} concrete (taken n v) (put_on (ep-cell Out 0) w s))
        (run {i = i} concrete (taken n v) (put_on (ep-cell Out 0) (with_ready 0 q) t)))
        (plain_other c Out 0 (ep0-other c Out) s t l)
        (tail v (ltb n v.len) refl _ _ (record-kept c Out 0 w w refl (λ _. refl) s t l) m)
    ready v false s t l m = (p-aborted {i = i} (p_ret (same NotYet))).on s t l

    takes : (s t : St) → LowEquiv c quiet s t → n ≤ s.0.globals.ep0_max
        → Apart c st i (SameAnswer c.number) (run {i = i} concrete (take_out n) s)
        (run {i = i} concrete (take_out n) t)
    takes s t l m = subst
        (λ (q : EpCore). Apart c st i (SameAnswer c.number) (run {i = i} concrete (take_out n) s)
        (run {i = i} concrete (test (is_on q.ready) (modify_ep Out 0 (with_ready 0) >> taken n q)
        (aborted_else (ret NotYet))) t))
        (plain_other c Out 0 (ep0-other c Out) s t l) (ready (plain_of (ep_on s.0 Out 0))
        (is_on (ep_on s.0 Out 0).ready) s t l m)

    asked : (v : Control) (b : Bool) → eqb v.length n ≡ b → (s t : St) → LowEquiv c quiet s t → v.length
        ≤ s.0.globals.ep0_max
        → Apart c st i (SameAnswer c.number)
        (run {i = i} concrete (test b (take_out n) (modify_ep Out 0 (with_ready 0) >> ends_control (Refused 10))) s)
        (run {i = i} concrete (test b (take_out n) (modify_ep Out 0 (with_ready 0) >> ends_control (Refused 10))) t)
    asked v true z s t l m = takes s t l (omega (arith, m, eqb-true v.length n z))
    asked v false z s t l m = (p-then {i = i} (p-modify-ep c Out 0 (with_ready 0) (λ _. refl))
        (p-ends-control (Refused 10))).on s t l

    sorted : (b : Bool) (s t : St) → eqb s.0.control.sort DATA-OUT ≡ b → LowEquiv c quiet s t
        → Apart c st i (SameAnswer c.number) (run {i = i} concrete
        (test b (polls n s.0.control) (ret (Refused 15))) s)
        (run {i = i} concrete (test b (polls n s.0.control) (ret (Refused 15))) t)
    sorted true s t z l = asked s.0.control (eqb s.0.control.length n) refl s t l
        (l.left.bounded (eqb-true s.0.control.sort DATA-OUT z)).1
    sorted false s t z l = end (same (Refused 15)) l

    pub p-poll-data-out : Pair c st {i = i} (SameAnswer c.number) (requested DATA-OUT (polls n))
        (requested DATA-OUT (polls n))
    p-poll-data-out = record {
      on = λ s t l. subst
          (λ (v : Control). Apart c st i (SameAnswer c.number)
          (run {i = i} concrete (requested DATA-OUT (polls n)) s)
          (run {i = i} concrete (test (eqb v.sort DATA-OUT) (polls n v) (ret (Refused 15))) t))
          l.but.control (sorted (eqb s.0.control.sort DATA-OUT) s t refl l);
    }
