-- The paced microframes, the requests, the control pipe's request; packets into slots that are no ring's
use Rattle.std.specs.Prelude.{Bool, true, cond, List, ◌≢◌, ◌≡◌, ℕ, ◌%◌, ◌≤◌, eqb, ltb, length}
use Rattle.std.proofs.Math.Bool.{false}
use Rattle.std.proofs.Math.Path.{refl, ap, subst, sym}
use Rattle.std.proofs.Common.{◌∙◌}
use Rattle.std.proofs.Math.Decide.{ℕ_discrete}
use Rattle.std.proofs.lemmas.Bool.{eqb-false}
use Rattle.std.proofs.Math.ListN.{get_or, set}
use Rattle.regs.specs.declared.Dir.{Dir}
use Rattle.regs.specs.declared.Dir.TheVariants.{Out, In}
use Rattle.state.specs.declared.EpState.{EpState}
use Rattle.state.specs.declared.Globals.{Globals}
use Rattle.state.specs.declared.Request.{Request}
use Rattle.state.specs.declared.Control.{Control}
use Rattle.state.specs.Driver.{Driver, key, no_request, ep_on, stamp_on, paced_on, with_paced_on, request_on, with_request_on}
use Rattle.state.specs.Driver.{with_control}
use Rattle.state.specs.Laws.{Sized, request_on-same, request_on-other}
use Rattle.ring.specs.Only.{Only}
use Rattle.ring.specs.Copies.{copied}
use Rattle.script.specs.Cells.{control-cell, request-cell, paced_cell}
use Rattle.script.specs.Script.{put, get, act, fill, fill0}
use Rattle.script.specs.Statics.{is_on}
use Rattle.script.specs.Control.{DATA-OUT}
use Rattle.script.specs.Simulates.{quiet}
use Rattle.script.specs.Machine.{Buf}
use Rattle.script_ops.specs.Rings.{St, filled_on, filled_ep0}
use Rattle.script_ops.specs.Concrete.{get_on, put_on, act_on}
use Rattle.proof_book.specs.Coupling.{end_of}
use Rattle.proof_book.specs.FrameLaws.{same_place}
use Rattle.proof_isolation.specs.EqualExcept.{EqualExcept, Channel, LowEquiv}
use Rattle.proof_isolation.specs.Apart.{Pair}
use Rattle.proof_isolation.specs.PairsLaws.{Eq, Any, p_get, p_put, p-act}
use Rattle.proof_isolation.specs.ButsLaws.{but-parts, like-made, lawful-put, lawful-control, lawful-act}
use Rattle.proof_isolation.specs.BytesLaws.{copied-like, only-like}
use Rattle.proof_isolation.proofs.ValuesLaws.{in-other}

-- ---- drivers

request-key : (d : Driver) (a dir : Dir) (f e : ℕ) → key a f ≡ key dir e → request_on d a f ≡ request_on d dir e
unfolding request_on
request-key d a dir f e p = ap (λ k. get_or d.requests k no_request) p

module _ {x : ℕ} {d d' : Driver} (h : EqualExcept x d d') where
  but-control : (v : Control) → EqualExcept x (with_control d v) (with_control d' v)
  unfolding stamp_on request_on
  but-control v = but-parts h h.globals refl h.paced h.wakes h.requests h.stamps

  but-paced : (e v : ℕ) → EqualExcept x (with_paced_on d e v) (with_paced_on d' e v)
  unfolding with_paced_on stamp_on request_on
  but-paced e v = but-parts h h.globals h.control (ap (λ l. set l (e % 16) v) h.paced) h.wakes h.requests
      h.stamps

  but-request : Sized d → Sized d' → (dir : Dir) (e : ℕ) (v : Request)
      → EqualExcept x (with_request_on d dir e v) (with_request_on d' dir e v)
  unfolding with_request_on stamp_on
  but-request z z' dir e v = but-parts h h.globals h.control h.paced h.wakes
      (λ a f n. elim (ℕ_discrete (key a f) (key dir e)) [
        | yes p ↦ request-key (with_request_on d dir e v) a dir f e p ∙ request_on-same d dir e v z
            ∙ sym (request-key (with_request_on d' dir e v) a dir f e p ∙ request_on-same d' dir e v z')
        | no p ↦ request_on-other d dir e v a f p ∙ h.requests a f n ∙ sym (request_on-other d' dir e v a f p)
      ])
      h.stamps

-- ---- states

module _ (c : Channel) where
  pub control-kept : (v : Control) (s t : St) → (v.sort ≡ DATA-OUT → v.length ≤ s.0.globals.ep0_max)
      → LowEquiv c quiet s t → LowEquiv c quiet (put_on control-cell v s) (put_on control-cell v t)
  unfolding ep_on
  control-kept v s t h l = like-made l (lawful-control c v h l.left)
      (lawful-control c v (λ z. subst (λ (g : Globals). v.length ≤ g.ep0_max) l.but.globals (h z)) l.right)
      (but-control l.but v) (same_place (ep_on s.0 Out c.number)) l.bytes

  paced-kept : (e v : ℕ) (s t : St) → LowEquiv c quiet s t
      → LowEquiv c quiet (put_on (paced_cell e) v s) (put_on (paced_cell e) v t)
  unfolding ep_on with_paced_on
  paced-kept e v s t l = like-made l (lawful-put c (paced_cell e) v l.left refl)
      (lawful-put c (paced_cell e) v l.right refl)
      (but-paced l.but e v) (same_place (ep_on s.0 Out c.number)) l.bytes

  request-kept : (dir : Dir) (e : ℕ) (v : Request) (s t : St)
      → LowEquiv c quiet s t → LowEquiv c quiet (put_on (request-cell dir e) v s) (put_on (request-cell dir e) v t)
  unfolding ep_on with_request_on
  request-kept dir e v s t l = like-made l (lawful-put c (request-cell dir e) v l.left refl)
      (lawful-put c (request-cell dir e) v l.right refl)
      (but-request l.but l.left.rest.sized l.right.rest.sized dir e v)
      (same_place (ep_on s.0 Out c.number)) l.bytes

  paced-same : (e : ℕ) (s t : St) → LowEquiv c quiet s t → get_on (paced_cell e) s ≡ get_on (paced_cell e) t
  unfolding paced_on
  paced-same e s t l = ap (λ m. get_or m (e % 16) 0) l.but.paced

  -- a packet into IN e's slot
  fill-by : (u v : Bool) (at : ℕ) (bytes : List ℕ) {lo hi : ℕ} {b b' : Buf} → Only lo hi b b'
      → Only lo hi (cond u b (cond v b (copied b at bytes))) (cond u b' (cond v b' (copied b' at bytes)))
  fill-by true v at bytes o = o
  fill-by false true at bytes o = o
  fill-by false false at bytes {b = b} {b' = b'} o = only-like o (λ k a. copied-like b b' at bytes k a)

  fills : (e : ℕ) (bytes : List ℕ) (s t : St) → LowEquiv c quiet s t
      → LowEquiv c quiet (act_on (fill e bytes) s) (act_on (fill e bytes) t)
  unfolding filled_on
  fills e bytes s t l =
      let r = ep_on s.0 In e in
      like-made l (lawful-act c (fill e bytes) refl l.left) (lawful-act c (fill e bytes) refl l.right) l.but
      (same_place (ep_on s.0 Out c.number))
      (subst (λ (q : EpState). Only (ep_on s.0 Out c.number).base (end_of (ep_on s.0 Out c.number))
      (filled_on s.0 e bytes s.1)
      (cond (is_on q.iso) t.1 (cond (ltb q.max_len (length bytes)) t.1 (copied t.1 q.base bytes))))
      (l.but.eps In e (in-other c.number e)) (fill-by (is_on r.iso) (ltb r.max_len (length bytes)) r.base
      bytes l.bytes))

  -- into EP0's
  fills0 : (bytes : List ℕ) (s t : St) → LowEquiv c quiet s t
      → LowEquiv c quiet (act_on (fill0 bytes) s) (act_on (fill0 bytes) t)
  unfolding filled_ep0
  fills0 bytes s t l =
      let g = s.0.globals in
      like-made l (lawful-act c (fill0 bytes) refl l.left) (lawful-act c (fill0 bytes) refl l.right) l.but
      (same_place (ep_on s.0 Out c.number))
      (subst (λ (q : Globals). Only (ep_on s.0 Out c.number).base (end_of (ep_on s.0 Out c.number))
      (filled_ep0 s.0 bytes s.1) (cond (ltb q.ep0_max (length bytes)) t.1
      (copied t.1 q.ep0_buf bytes)))
      l.but.globals (fill-by false (ltb g.ep0_max (length bytes)) g.ep0_buf bytes l.bytes))

  -- ---- in scripts

  module _ {st : ℕ} {i : Bool} where
    -- a request that is no data_out's
    pub p-put-control : (v : Control) → eqb v.sort DATA-OUT ≡ false
        → Pair c st {i = i} Any (put control-cell v) (put control-cell v)
    p-put-control v h = p_put control-cell v v (λ s t l. control-kept v s t
        (λ z. absurd (eqb-false v.sort DATA-OUT h z)) l)

    pub p-control : Pair c st {i = i} Eq (get control-cell) (get control-cell)
    p-control = p_get control-cell Eq (λ s t l. l.but.control)

    pub p-put-paced : (e v : ℕ) → Pair c st {i = i} Any (put (paced_cell e) v) (put (paced_cell e) v)
    p-put-paced e v = p_put (paced_cell e) v v (paced-kept e v)

    pub p-paced : (e : ℕ) → Pair c st {i = i} Eq (get (paced_cell e)) (get (paced_cell e))
    p-paced e = p_get (paced_cell e) Eq (paced-same e)

    pub p-put-request : (dir : Dir) (e : ℕ) (v : Request)
        → Pair c st {i = i} Any (put (request-cell dir e) v) (put (request-cell dir e) v)
    p-put-request dir e v = p_put (request-cell dir e) v v (request-kept dir e v)

    -- but the channel's
    pub p-request : (dir : Dir) (e : ℕ) → key dir e ≢ key Out c.number
        → Pair c st {i = i} Eq (get (request-cell dir e)) (get (request-cell dir e))
    p-request dir e n = p_get (request-cell dir e) Eq (λ s t l. l.but.requests dir e n)

    pub p-fill : (e : ℕ) (bytes : List ℕ) → Pair c st {i = i} Any (act (fill e bytes)) (act (fill e bytes))
    p-fill e bytes = p-act (fill e bytes) (fills e bytes)

    pub p-fill0 : (bytes : List ℕ) → Pair c st {i = i} Any (act (fill0 bytes)) (act (fill0 bytes))
    p-fill0 bytes = p-act (fill0 bytes) (fills0 bytes)
