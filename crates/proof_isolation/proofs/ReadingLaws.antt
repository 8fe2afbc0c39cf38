-- A poll of a read of another endpoint
use Rattle.std.specs.Prelude.{Bool, true, false, ◌||◌, ◌≢◌, ◌≡◌, ℕ, ◌≤◌, ltb}
use Rattle.std.proofs.Common.{true≢false, ap, subst, ◌∙◌, arith, ltb-false}
use Rattle.std.proofs.Math.Path.{refl}
use Rattle.regs.specs.declared.Dir.TheVariants.{Out}
use Rattle.state.specs.declared.EpState.{EpState}
use Rattle.state.specs.Driver.{key, ep_on}
use Rattle.state.specs.Laws.{ep_on-same}
use Rattle.ring.specs.Copies.{bytes_at}
use Rattle.ring.specs.Slot.{has_waiting}
use Rattle.ring.specs.Out.{closed_of}
use Rattle.ring.specs.Slots.{slot-from, slot-upto}
use Rattle.script.specs.Cells.{EpCore, ep-cell}
use Rattle.script.specs.Script.{Script, run, ret, bind, test, fetch, ◌>>◌, waiting, oldest, received, take_oldest}
use Rattle.script.specs.Statics.{is_on, with_ready, modify_ep}
use Rattle.script.specs.Answers.{Answer, Refused, NotYet, Done}
use Rattle.script.specs.Endpoint.{enabled_else, ends_request, polled, take_iso, too_long, take_ready}
use Rattle.script.specs.Simulates.{quiet}
use Rattle.script_ops.specs.Records.{plain_of, merged}
use Rattle.script_ops.specs.Rings.{St, take_on}
use Rattle.script_ops.specs.Concrete.{concrete, fetch_of, put_on, act_on}
use Rattle.proof_isolation.specs.EqualExcept.{Channel, LowEquiv}
use Rattle.proof_isolation.specs.Apart.{Apart, Pair}
use Rattle.proof_isolation.specs.PairsLaws.{p_ret, p-same, p-then, p_test, p_is, p_fetch, p-act}
use Rattle.proof_isolation.specs.ButsLaws.{lawful-act, others_same}
use Rattle.proof_isolation.proofs.ValuesLaws.{plain_other, record-kept}
use Rattle.proof_isolation.specs.Answers.{SameAnswer, same}
use Rattle.proof_isolation.proofs.InRingsLaws.{out-changed}
use Rattle.proof_isolation.proofs.AsidesLaws.{bytes_same, waiting-out, oldest-out}
use Rattle.proof_isolation.proofs.RowsLaws.{p-enabled, p-ends-request, p-polled}

or_false : (a b : Bool) → (a || b) ≡ false → b ≡ false
or_false true b h = absurd (true≢false h)
or_false false b h = h

within : (k : ℕ) (v : EpCore) → too_long k v ≡ false → v.len ≤ v.max_len
unfolding too_long
within k v h = ltb-false v.max_len v.len (or_false (ltb k v.len) (ltb v.max_len v.len) h)

-- the parts of `take_ready` and of a read's poll
abbrev taken : {i : Bool} → ℕ → ℕ → EpCore → Script i Answer
taken e k v = test (too_long k v) (ends_request Out e (Refused 10))
    (bind (fetch (received e v.len)) (λ w. ends_request Out e (Done w)))

abbrev ready_out : {i : Bool} → ℕ → ℕ → EpCore → Script i Answer
ready_out e k v = modify_ep Out e (with_ready 0) >> taken e k v

abbrev not_ready : {i : Bool} → ℕ → Script i Answer
not_ready e = enabled_else Out e (ends_request Out e (Refused 9)) (ret NotYet)

abbrev pub taking : {i : Bool} → ℕ → ℕ → EpCore → Script i Answer
taking e k v = test (is_on v.iso) (take_iso e k) (take_ready e k v)

module _ (c : Channel) (e : ℕ) (n : key Out e ≢ key Out c.number) where
  takes : (s t : St) → LowEquiv c quiet s t → LowEquiv c quiet (act_on (take_oldest e) s) (act_on (take_oldest e) t)
  unfolding take_on
  takes s t l = out-changed c e n has_waiting closed_of s t l (lawful-act c (take_oldest e) refl l.left)
      (lawful-act c (take_oldest e) refl l.right)

  -- what was received, within the maximum, lies in its own slot
  received-same : (s t : St) → LowEquiv c quiet s t → (k : ℕ) → k ≤ (ep_on s.0 Out e).max_len
      → fetch_of (received e k) s ≡ fetch_of (received e k) t
  received-same s t l k m =
      let r = ep_on s.0 Out e in
      let f = (l.left.rest.outs e).held in
      let u = slot-upto f.placed 0 in
      let w = slot-from f.placed 0 in
      bytes_same s.1 t.1 r.base k l.bytes.long (omega (arith, f.least, u, w, f.placed.inside))
      (others_same l Out e _ _ n (omega arith) (omega (arith, f.least, u, w)))
      ∙ ap (λ (r : EpState). bytes_at t.1 r.base k) (l.but.eps Out e n)

  module _ {st : ℕ} {i : Bool} where
    p-take-iso : (k : ℕ) → Pair c st {i = i} (SameAnswer c.number) (take_iso e k) (take_iso e k)
    p-take-iso k = p-enabled Out e (p-ends-request Out e _)
        (p-same (p_is (waiting Out e) (waiting-out c e n)) (λ b. p_test b
        (λ _. p-same (p_fetch (oldest e) (oldest-out c e n))
        (λ w. p-then (p-act (take_oldest e) takes) (p-ends-request Out e _)))
        (λ _. p_ret (same _))))

  module _ (st : ℕ) (i : Bool) (k : ℕ) where
    -- the packet is taken, its record as it was but for `ready`
    tail : (v : EpCore) (b : Bool) → too_long k v ≡ b → (s t : St) → LowEquiv c quiet s t → (ep_on s.0 Out e).max_len
        ≡ v.max_len
        → Apart c st i (SameAnswer c.number)
        (run {i = i} concrete
        (test b (ends_request Out e (Refused 10)) (bind (fetch (received e v.len))
        (λ w. ends_request Out e (Done w)))) s)
        (run {i = i} concrete (test b (ends_request Out e (Refused 10))
        (bind (fetch (received e v.len)) (λ w. ends_request Out e (Done w)))) t)
    tail v true z s t l m = (p-ends-request {i = i} Out e (Refused 10)).on s t l
    tail v false z s t l m =
        subst
        (λ w. Apart c st i (SameAnswer c.number) (run {i = i} concrete
        (ends_request Out e (Done (fetch_of (received e v.len) s))) s)
        (run {i = i} concrete (ends_request Out e (Done w)) t))
        (received-same s t l v.len (omega (arith, m, within k v z)))
        ((p-ends-request {i = i} Out e (Done _)).on s t l)

    ready : (v : EpCore) (b : Bool) (s t : St) → LowEquiv c quiet s t → plain_of (ep_on s.0 Out e) ≡ v
        → Apart c st i (SameAnswer c.number) (run {i = i} concrete (test b (ready_out e k v) (not_ready e)) s)
        (run {i = i} concrete (test b (ready_out e k v) (not_ready e)) t)
    ready v true s t l p =
        let r = ep_on s.0 Out e in
        let w = with_ready 0 (plain_of r) in
        subst
        (λ q. Apart c st i (SameAnswer c.number) (run {i = i} concrete (taken e k v) (put_on (ep-cell Out e) w s))
        (run {i = i} concrete (taken e k v) (put_on (ep-cell Out e) (with_ready 0 q) t))) (plain_other c Out e n s t l)
        (tail v (too_long k v) refl _ _ (record-kept c Out e w w refl (λ _. refl) s t l)
        (ap (λ (q : EpState). q.max_len) (ep_on-same s.0 Out e (merged r w) l.left.rest.sized)
        ∙ ap (λ (q : EpCore). q.max_len) p))
    ready v false s t l p = (p-enabled {i = i} Out e (p-ends-request Out e (Refused 9)) (p_ret (same NotYet))).on s t l

    chosen : (v : EpCore) (b : Bool) (s t : St) → LowEquiv c quiet s t → plain_of (ep_on s.0 Out e) ≡ v
        → Apart c st i (SameAnswer c.number) (run {i = i} concrete (test b (take_iso e k) (take_ready e k v)) s)
        (run {i = i} concrete (test b (take_iso e k) (take_ready e k v)) t)
    chosen v true s t l p = (p-take-iso {i = i} k).on s t l
    chosen v false s t l p = ready v (is_on v.ready) s t l p

  pub p-poll-read : {st : ℕ} {i : Bool} (k : ℕ) → Pair c st {i = i} (SameAnswer c.number)
      (polled Out e k (taking e k)) (polled Out e k (taking e k))
  p-poll-read {st} {i} k = p-polled Out e k n (record {
    on = λ s t l. subst
        (λ q. Apart c st i (SameAnswer c.number) (run {i = i} concrete (taking e k (plain_of (ep_on s.0 Out e))) s)
        (run {i = i} concrete (taking e k q) t)) (plain_other c Out e n s t l)
        (chosen st i k (plain_of (ep_on s.0 Out e)) (is_on (ep_on s.0 Out e).iso) s t l refl);
  })
