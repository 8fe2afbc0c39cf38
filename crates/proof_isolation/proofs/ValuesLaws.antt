-- Kept values, read and assigned
use Rattle.std.specs.Prelude.{Bool, true, List, [], ◌∷◌, ◌≢◌, ◌≡◌, ℕ}
use Rattle.std.proofs.Common.{true≢false, ap, subst, sym, ◌∙◌, arith}
use Rattle.std.proofs.Math.Path.{refl}
use Rattle.regs.specs.declared.Dir.{Dir}
use Rattle.regs.specs.declared.Dir.TheVariants.{Out, In}
use Rattle.state.specs.declared.EpState.{EpState}
use Rattle.state.specs.declared.Globals.{Globals}
use Rattle.state.specs.Wakes.{wake_code, bus_code, every_endpoint}
use Rattle.state.specs.Driver.{key, ep_on, with_on}
use Rattle.state.specs.Laws.{key_apart}
use Rattle.script.specs.Cells.{EpCore, globals-cell, ep-cell}
use Rattle.script.specs.Script.{Script, run, bind, get, put, act, fetch, gathered, no_wakes, waken}
use Rattle.script.specs.Statics.{is_on, with_ready, modify, modify_ep, wake, wake_all, wake_bus}
use Rattle.script.specs.Simulates.{quiet}
use Rattle.script.specs.TransferKinds.{Shows}
use Rattle.script_ops.specs.Records.{plain_of, merged, merged_globals}
use Rattle.script_ops.specs.Rings.{St}
use Rattle.script_ops.specs.Concrete.{concrete, put_on, act_on}
use Rattle.proof_book.specs.Book.{merged_plain}
use Rattle.proof_book.specs.LensLaws.{key-ep}
use Rattle.proof_book.specs.FrameLaws.{same_place, changed-on}
use Rattle.proof_book.specs.TransferKindsLaws.{sorted}
use Rattle.proof_isolation.specs.EqualExcept.{SameCodes, Stays, Channel, LowEquiv}
use Rattle.proof_isolation.specs.Apart.{ApartBy, end, PairBy, Pair}
use Rattle.proof_isolation.specs.PairsLaws.{Eq, Any, p_bind, p-same, p_get, p_put, p-act}
use Rattle.proof_isolation.specs.WakesLaws.{none-same, all_same, own-woken}
use Rattle.proof_isolation.specs.ButsLaws.{stays-any, but-globals, but-wakes, but-on, changed-seat, like-made}
use Rattle.proof_isolation.specs.ButsLaws.{lawful-put, lawful-act}

merged-stays : {r r' : EpState} (v v' : EpCore) → with_ready 0 v' ≡ with_ready 0 v → Stays r r'
    → Stays (merged r v) (merged r' v')
merged-stays v v' q h = record {
  place = record { base = h.place.base; stride = h.place.stride; slots = h.place.slots };
  plain = λ i. merged_plain (h.plain i) (q i);
}

-- EP0 is not the channel, nor is an IN endpoint
pub in-other : (x e : ℕ) → key In e ≢ key Out x
in-other x e z = key_apart x e (sym z)

pub ep0-other : (c : Channel) (dir : Dir) → key dir 0 ≢ key Out c.number
unfolding key
ep0-other c Out z = true≢false (sym c.receives ∙ ap (c.iso Out) (let h : c.number ≡ 0
    = omega (arith, z, c.below) in h) ∙ c.ep0 Out)
ep0-other c In z = in-other c.number 0 z

module _ (c : Channel) where
  -- ---- the globals

  pub globals-kept : (v : Globals) (s t : St) → LowEquiv c quiet s t
      → LowEquiv c quiet (put_on globals-cell v s) (put_on globals-cell v t)
  unfolding ep_on
  globals-kept v s t l = like-made l (lawful-put c globals-cell v l.left refl)
      (lawful-put c globals-cell v l.right refl)
      (but-globals l.but _ _ (ap (λ g. merged_globals g v) l.but.globals))
      (same_place (ep_on s.0 Out c.number)) l.bytes

  -- ---- a record

  -- values that are the same, or of the channel the same but for `ready`
  pub record-kept : (dir : Dir) (e : ℕ) (v v' : EpCore)
      → with_ready 0 v' ≡ with_ready 0 v → (key dir e ≢ key Out c.number → v ≡ v')
      → (s t : St) → LowEquiv c quiet s t → LowEquiv c quiet (put_on (ep-cell dir e) v s) (put_on (ep-cell dir e) v' t)
  unfolding with_on
  record-kept dir e v v' q f s t l =
      let z = l.left.rest.sized in
      let z' = l.right.rest.sized in
      let r = ep_on s.0 dir e in
      like-made l (lawful-put c (ep-cell dir e) v l.left refl) (lawful-put c (ep-cell dir e) v' l.right refl)
      (but-on l.but z z' dir e (merged r v) (merged (ep_on t.0 dir e) v')
      (λ n i. merged (l.but.eps dir e n i) (f n i))
      (λ _. merged-stays v v' q (stays-any l.but dir e)))
      (changed-seat c.number (changed-on z dir e (merged r v) (record { base = refl; stride = refl; slots = refl })
      refl)) l.bytes

  -- what scripts see of a record
  pub plain_other : (dir : Dir) (e : ℕ) → key dir e ≢ key Out c.number
      → (s t : St) → LowEquiv c quiet s t → plain_of (ep_on s.0 dir e) ≡ plain_of (ep_on t.0 dir e)
  plain_other dir e n s t l = ap plain_of (l.but.eps dir e n)

  -- and of the channel's
  pub plain-any : (dir : Dir) (e : ℕ) (s t : St) → LowEquiv c quiet s t → with_ready 0 (plain_of (ep_on s.0 dir e))
      ≡ with_ready 0 (plain_of (ep_on t.0 dir e))
  plain-any dir e s t l = sym (stays-any l.but dir e).plain

  -- ---- wake-ups

  begins-none : (s t : St) → LowEquiv c quiet s t → LowEquiv c quiet (act_on no_wakes s) (act_on no_wakes t)
  unfolding ep_on
  begins-none s t l = like-made l (lawful-act c no_wakes refl l.left) (lawful-act c no_wakes refl l.right)
      (but-wakes l.but _ _ (none-same l.but.wakes)) (same_place (ep_on s.0 Out c.number)) l.bytes

  wakens : (codes : List ℕ) (s t : St) → LowEquiv c quiet s t
      → LowEquiv c quiet (act_on (waken codes) s) (act_on (waken codes) t)
  unfolding ep_on
  wakens codes s t l = like-made l (lawful-act c (waken codes) refl l.left)
      (lawful-act c (waken codes) refl l.right)
      (but-wakes l.but _ _ (all_same codes l.but.wakes)) (same_place (ep_on s.0 Out c.number)) l.bytes

  -- the channel's own wake-up, in one run
  pub own-wake : {s t : St} → LowEquiv c quiet s t → LowEquiv c quiet (act_on (waken (wake_code Out c.number ∷ [])) s)
      t
  unfolding ep_on
  own-wake {s} {t} l = like-made l (lawful-act c (waken (wake_code Out c.number ∷ [])) refl l.left) l.right
      (but-wakes l.but _ t.0.wakes (own-woken l.but.wakes)) (same_place (ep_on s.0 Out c.number))
      l.bytes

  -- ---- in scripts

  module _ {st : ℕ} {i : Bool} where
    pub p-assign : (v : Globals) → Pair c st {i = i} Any (put globals-cell v) (put globals-cell v)
    p-assign v = p_put globals-cell v v (globals-kept v)

    pub p-records : (dir : Dir) (e : ℕ) (v v' : EpCore) → with_ready 0 v' ≡ with_ready 0 v
        → (key dir e ≢ key Out c.number → v ≡ v') → Pair c st {i = i} Any (put (ep-cell dir e) v)
        (put (ep-cell dir e) v')
    p-records dir e v v' q f = p_put (ep-cell dir e) v v' (record-kept dir e v v' q f)

    pub p-record : (dir : Dir) (e : ℕ) (v : EpCore) → Pair c st {i = i} Any (put (ep-cell dir e) v)
        (put (ep-cell dir e) v)
    p-record dir e v = p-records dir e v v refl (λ _. refl)

    pub p-modify : (f : Globals → Globals) → Pair c st {i = i} Any (modify f) (modify f)
    p-modify f = p-same (p_get globals-cell Eq (λ s t l. l.but.globals)) (λ g. p-assign (f g))

    -- a change that carries no more of `ready` into the other fields
    pub p-modify-ep : (dir : Dir) (e : ℕ) (f : EpCore → EpCore)
        → ((p : EpCore) → with_ready 0 (f p) ≡ with_ready 0 (f (with_ready 0 p)))
        → Pair c st {i = i} Any (modify_ep dir e f) (modify_ep dir e f)
    p-modify-ep dir e f k = record {
      on = λ s t l. end tt (record-kept dir e _ _
          (k _ ∙ ap (λ p. with_ready 0 (f p)) (sym (plain-any dir e s t l)) ∙ sym (k _))
          (λ n. ap f (plain_other dir e n s t l)) s t l);
    }

    pub p-begins : Pair c st {i = i} Any (act no_wakes) (act no_wakes)
    p-begins = p-act no_wakes begins-none

    pub p-gathered : Pair c st {i = i} (SameCodes c.number) (fetch gathered) (fetch gathered)
    p-gathered = record { on = λ s t l. end l.but.wakes.same l }

    pub p-wake : (dir : Dir) (e : ℕ) → Pair c st {i = i} Any (wake dir e) (wake dir e)
    p-wake dir e = p-act (waken (wake_code dir e ∷ [])) (wakens (wake_code dir e ∷ []))

    pub p-wake-all : Pair c st {i = i} Any wake_all wake_all
    p-wake-all = p-act (waken every_endpoint) (wakens every_endpoint)

    pub p-wake-bus : Pair c st {i = i} Any wake_bus wake_bus
    p-wake-bus = p-act (waken (bus_code ∷ [])) (wakens (bus_code ∷ []))

    module _ {m : Bool} {A B : Type 0} {Q : A → B → Type 0} where
      -- read with what they say of the sorts, and then the same on both sides
      pub p-globals : {f : Globals → Script i A} {g : Globals → Script i B}
          → ((v : Globals) → Shows c.iso globals-cell v → PairBy c st m Q (f v) (g v))
          → PairBy c st m Q (bind (get globals-cell) f) (bind (get globals-cell) g)
      p-globals {f} {g} h = p_bind (p_get globals-cell (λ v v'. (v ≡ v') × Shows c.iso globals-cell v) (λ s t l. (
        l.but.globals,
        (sorted c.iso c.ep0).shows globals-cell s l.left.has,
      )))
          (λ v v' e. subst (λ z. PairBy c st m Q (f v) (g z)) e.0 (h v e.1))

      -- of an endpoint but the channel
      pub p-plain : (dir : Dir) (e : ℕ) → key dir e ≢ key Out c.number
          → {f : EpCore → Script i A} {g : EpCore → Script i B}
          → ((v : EpCore) → Shows c.iso (ep-cell dir e) v → PairBy c st m Q (f v) (g v))
          → PairBy c st m Q (bind (get (ep-cell dir e)) f) (bind (get (ep-cell dir e)) g)
      p-plain dir e n {f} {g} h = p_bind (p_get (ep-cell dir e) (λ v v'. (v ≡ v') × Shows c.iso (ep-cell dir e) v)
          (λ s t l. (
            plain_other dir e n s t l,
            (sorted c.iso c.ep0).shows (ep-cell dir e) s l.left.has,
          )))
          (λ v v' e. subst (λ z. PairBy c st m Q (f v) (g z)) e.0 (h v e.1))

      pub p-plain-in : (e : ℕ) {f : EpCore → Script i A} {g : EpCore → Script i B}
          → ((v : EpCore) → Shows c.iso (ep-cell In e) v → PairBy c st m Q (f v) (g v))
          → PairBy c st m Q (bind (get (ep-cell In e)) f) (bind (get (ep-cell In e)) g)
      p-plain-in e h = p-plain In e (in-other c.number e) h

      pub p-plain-ep0 : (dir : Dir) {f : EpCore → Script i A} {g : EpCore → Script i B}
          → ((v : EpCore) → Shows c.iso (ep-cell dir 0) v → PairBy c st m Q (f v) (g v))
          → PairBy c st m Q (bind (get (ep-cell dir 0)) f) (bind (get (ep-cell dir 0)) g)
      p-plain-ep0 dir h = p-plain dir 0 (ep0-other c dir) h

      -- of any: the channel's `ready` may be another, and it is isochronous
      pub p-plain-any : (dir : Dir) (e : ℕ) {f : EpCore → Script i A} {g : EpCore → Script i B} → ((v : EpCore) (r : ℕ)
          → (key dir e ≢ key Out c.number → r ≡ v.ready) → (key dir e ≡ key Out c.number → is_on v.iso ≡ true)
          → Shows c.iso (ep-cell dir e) v → PairBy c st m Q (f v) (g (with_ready r v)))
          → PairBy c st m Q (bind (get (ep-cell dir e)) f) (bind (get (ep-cell dir e)) g)
      p-plain-any dir e {f} {g} h = record {
        on = λ s t l.
            let p = plain_of (ep_on s.0 dir e) in
            let q = plain_of (ep_on t.0 dir e) in
            subst (λ z. ApartBy c st i Q m (run concrete (f p) s) (run concrete (g z) t))
            (ap (with_ready q.ready) (plain-any dir e s t l))
            ((h p q.ready (λ n. ap (λ (v : EpCore). v.ready) (sym (plain_other dir e n s t l)))
            (λ k. ap (λ (r : EpState). is_on r.iso) (key-ep s.0 dir Out e c.number k)
            ∙ l.left.has.flags Out c.number ∙ c.receives)
            ((sorted c.iso c.ep0).shows (ep-cell dir e) s l.left.has)).on s t l);
      }
