-- Places of a list, filled one after the other; all of them filled. Assumes nothing.
use Rattle.std.proofs.Common.{◌≡◌, ℕ, zero, suc, ◌+◌, ◌-◌, ◌*◌, ◌<◌, ◌≤◌, List, length, get_or, set, replicate, sym, refl, ap, ◌∙◌, subst, ⊎_elim, add-one, arith, length-set, get_or-set_other, get_or-set_same, ext_get_or}
use Rattle.bits.specs.TablesLaws.{lt-or-ge}
use Rattle.bits.specs.Bytes.{puts, bytes}
use Rattle.state.specs.declared.EpState.{EpState}
use Rattle.state.specs.Codec.{ep_widths, ep_as}
use Rattle.state.specs.State.{view, saved}
use Rattle.state.specs.Ep.{new_ep, with_moves, with_place}
use Rattle.state.specs.Wakes.{none_woken}
use Rattle.state.specs.declared.Request.{Request}
use Rattle.state.specs.Driver.{Driver, no_ep, no_request, with_eps, with_lens, with_stamps, with_paced, with_requests}
use Rattle.state.specs.Laws.{view-sized}
use Rattle.state.proofs.Views.{view-eps, saved-off}
use Rattle.state.specs.Fresh.{filled, fresh_globals, fresh_allocator, no_control, fresh_driver}

module _ {A : Type 0} (l : List A) where
  pub filled_none : (a : ℕ) (v : A) → filled l a 0 v ≡ l
  unfolding filled
  filled_none a v = refl

  -- one place more
  pub filled_next : (a k : ℕ) (v : A) → set (filled l a k v) (a + k) v ≡ filled l a (k + 1) v
  unfolding filled
  filled_next a k v = ap (λ (j : ℕ). filled l a j v) (sym (add-one k))

  pub filled-first : (k : ℕ) (v : A) → set (filled l 0 k v) k v ≡ filled l 0 (k + 1) v
  filled-first k v = let w : k ≡ 0 + k = omega arith in ap (λ (j : ℕ). set (filled l 0 k v) j v) w ∙ filled_next 0 k v

  length-filled : (a n : ℕ) (v : A) → length (filled l a n v) ≡ length l
  unfolding filled
  length-filled a zero v = refl
  length-filled a (suc n) v = length-set (filled l a n v) (a + n) v ∙ length-filled a n v

  get_d-filled : (a n : ℕ) (v : A) (i : ℕ) → a ≤ i → i < a + n → i < length l → get_or (filled l a n v) i v ≡ v
  unfolding filled
  get_d-filled a zero v i p q b = absurd (omega arith)
  get_d-filled a (suc n) v i p q b =
      let xs = filled l a n v in
      ⊎_elim
      (λ (h : i < a + n). get_or-set_other xs (a + n) i v v (λ e. omega arith) ∙ get_d-filled a n v i p h b)
      (λ (h : a + n ≤ i).
      let e : i ≡ a + n = omega arith in
      ap (λ (j : ℕ). get_or (set xs (a + n) v) j v) e ∙ get_or-set_same xs (a + n) v v (omega (arith, length-filled a n v)))
      (lt-or-ge i (a + n))

  -- a place that is not filled yet
  get_d-filled-past : (a n : ℕ) (v : A) (i : ℕ) (d : A) → a + n ≤ i → get_or (filled l a n v) i d ≡ get_or l i d
  unfolding filled
  get_d-filled-past a zero v i d h = refl
  get_d-filled-past a (suc n) v i d h =
      get_or-set_other (filled l a n v) (a + n) i v d (λ e. omega arith) ∙ get_d-filled-past a n v i d (omega arith)

get_d_replicate : {A : Type 0} (n : ℕ) (v : A) (i : ℕ) → get_or (replicate n v) i v ≡ v
get_d_replicate zero v i = refl
get_d_replicate (suc n) v zero = refl
get_d_replicate (suc n) v (suc i) = get_d_replicate n v i

length-replicate : {A : Type 0} (n : ℕ) (v : A) → length (replicate n v) ≡ n
length-replicate zero v = refl
length-replicate (suc n) v = ap suc (length-replicate n v)

-- all places filled
pub filled-all : {A : Type 0} (l : List A) (n : ℕ) (v : A) → length l ≡ n → filled l 0 n v ≡ replicate n v
filled-all l n v e =
    ext_get_or v (filled l 0 n v) (replicate n v) (length-filled l 0 n v ∙ e ∙ sym (length-replicate n v))
    (λ i b. get_d-filled l 0 n v i (omega arith) (omega (arith, length-filled l 0 n v))
    (omega (arith, length-filled l 0 n v)) ∙ sym (get_d_replicate n v i))

-- filled twice
pub filled-twice : {A : Type 0} (l : List A) (n : ℕ) (u v : A) → length l ≡ n → filled (filled l 0 n u) 0 n v
    ≡ filled l 0 n v
filled-twice l n u v e = filled-all (filled l 0 n u) n v (length-filled l 0 n u ∙ e) ∙ sym (filled-all l n v e)

-- a table of the driver: its list, and the driver with another list in its place
pub record Table (A : Type 0) : Type 0 where
  pub of : Driver → List A
  pub anew : Driver → List A → Driver
  pub kept : (d : Driver) → anew d (of d) ≡ d
  pub got : (d : Driver) (l : List A) → of (anew d l) ≡ l
  pub again : (d : Driver) (l m : List A) → anew (anew d l) m ≡ anew d m

abbrev pub eps_table : Table EpState
eps_table = record { of = λ d. d.eps; anew = with_eps; kept = λ d. refl; got = λ d l. refl; again = λ d l m. refl }

abbrev pub lens_table : Table ℕ
lens_table = record { of = λ d. d.lens; anew = with_lens; kept = λ d. refl; got = λ d l. refl; again = λ d l m. refl }

abbrev pub stamps_table : Table ℕ
stamps_table = record {
  of = λ d. d.stamps;
  anew = with_stamps;
  kept = λ d. refl;
  got = λ d l. refl;
  again
      = λ d l m. refl;
}

abbrev pub paced_table : Table ℕ
paced_table = record {
  of = λ d. d.paced;
  anew = with_paced;
  kept = λ d. refl;
  got = λ d l. refl;
  again
      = λ d l m. refl;
}

abbrev pub requests_table : Table Request
requests_table = record {
  of = λ d. d.requests;
  anew = with_requests;
  kept = λ d. refl;
  got = λ d l. refl;
  again
      = λ d l m. refl;
}

-- of the bytes w the k places from a of a table are filled, and nothing else changed
abbrev pub Filled : {A : Type 0} → Table A → List ℕ → A → ℕ → ℕ → List ℕ → Type 0
Filled t w v a k xs = (view xs ≡ t.anew (view w) (filled (t.of (view w)) a k v)) × (saved xs ≡ saved w)

module _ {A : Type 0} (t : Table A) (w : List ℕ) (v : A) where
  pub none_filled : (a : ℕ) → Filled t w v a 0 w
  none_filled a = (sym (t.kept (view w)) ∙ ap (t.anew (view w)) (sym (filled_none (t.of (view w)) a v)), refl)

  -- one place more, the one at j
  pub one-filled : (a k j : ℕ) (xs ys : List ℕ) → j ≡ a + k → view ys ≡ t.anew (view xs) (set (t.of (view xs)) j v)
      → saved ys ≡ saved xs
      → Filled t w v a k xs → Filled t w v a (k + 1) ys
  one-filled a k j xs ys p e s h =
      let l = filled (t.of (view w)) a k v in (
        e ∙ ap (λ (d : Driver). t.anew d (set (t.of d) j v)) h.0
            ∙ t.again (view w) l (set (t.of (t.anew (view w) l)) j v)
            ∙ ap (λ (m : List A). t.anew (view w) (set m j v)) (t.got (view w) l)
            ∙ ap (λ (n : ℕ). t.anew (view w) (set l n v)) p
            ∙ ap (t.anew (view w)) (filled_next (t.of (view w)) a k v),
        s ∙ h.1,
      )

  -- all n places
  pub all-filled : (a n k : ℕ) (xs : List ℕ) → Filled t w v a k xs → k ≡ n → Filled t w v a n xs
  all-filled a n k xs h e = subst (λ (m : ℕ). Filled t w v a m xs) e h

-- A loop over all n places of a table: after k rounds the first k are filled, and n - k are left.
module _ {A : Type 0} (t : Table A) (v : A) (n : ℕ) where
  abbrev pub Filling : List ℕ → ℕ → List ℕ → ℕ → Type 0
  Filling w k₀ xs k = (k ≤ n) × Filled t w v 0 k xs

  pub none_yet : (w : List ℕ) → Filling w 0 w 0
  none_yet w = (omega arith, none_filled t w v 0)

  pub one_more : (w : List ℕ) (k : ℕ) (xs ys : List ℕ) → k < n → view ys ≡ t.anew (view xs) (set (t.of (view xs)) k v)
      → saved ys ≡ saved xs
      → Filling w 0 xs k → Filling w 0 ys (k + 1)
  one_more w k xs ys l e s h = (omega arith, one-filled t w v 0 k k xs ys (omega arith) e s h.1)

  pub all_done : (w : List ℕ) (k : ℕ) (xs : List ℕ) → n ≤ k → Filling w 0 xs k → Filled t w v 0 n xs
  all_done w k xs l h = all-filled t w v 0 n k xs h.1 (omega (arith, h.0))

abbrev pub Left : ℕ → List ℕ → ℕ → List ℕ → ℕ → ℕ
Left n w k₀ xs k = n - k

-- one endpoint's record more
pub ep-more : (w xs ys : List ℕ) (k : ℕ) (v : EpState) → length xs ≡ 2999 → k < 32 → ys
    ≡ puts xs (40 + k * 32) 0 (bytes ep_widths (ep_as v))
    → Filling eps_table v 32 w 0 xs k → Filling eps_table v 32 w 0 ys (k + 1)
ep-more w xs ys k v sized l e h =
    one_more eps_table v 32 w k xs ys l (ap view e ∙ view-eps xs sized k v l)
    (ap saved e ∙ saved-off xs (40 + k * 32) (bytes ep_widths (ep_as v)) (omega arith)) h

-- a record that was cleared and not made new yet
pub cleared_at : (w xs : List ℕ) (k : ℕ) (r : EpState) → (view w).eps ≡ replicate 32 no_ep
    → view xs ≡ with_eps (view w) (filled (view w).eps 0 k new_ep) → r ≡ get_or (view xs).eps k no_ep → r ≡ no_ep
cleared_at w xs k r z h e =
    e ∙ ap (λ (d : Driver). get_or d.eps k no_ep) h ∙ get_d-filled-past (view w).eps 0 k new_ep k no_ep (omega arith)
    ∙ ap (λ (l : List EpState). get_or l k no_ep) z ∙ get_d_replicate 32 no_ep k

-- its two fields that are not 0 in a new one
abbrev pub made_new : EpState → EpState
made_new r =
    with_moves (with_place r r.iso r.kind r.base r.stride 1 r.max_len r.armed_slot)
    r.ready r.len r.armed 0x1800 r.tog r.head r.tail r.loaded r.overruns r.armed_slot
    r.«open»

-- every record filled or stored
pub made-afresh : (xs : List ℕ) (size count callback : ℕ) → ◌≡◌ {A = Driver} (record {
  eps = filled (view xs).eps 0 32 new_ep;
  lens = filled (view xs).lens 0 512 0;
  stamps = replicate 256 0;
  globals = fresh_globals callback;
  allocator = fresh_allocator size count;
  paced = filled (view xs).paced 0 16 0x1800;
  requests = filled (view xs).requests 0 32 no_request;
  control = no_control;
  wakes = none_woken;
}) (fresh_driver size count callback)
unfolding fresh_driver
made-afresh xs size count callback =
    let s = view-sized xs in
    λ i. record {
      eps = filled-all (view xs).eps 32 new_ep s.eps i;
      lens = filled-all (view xs).lens 512 0 s.lens i;
      stamps = replicate 256 0;
      globals = fresh_globals callback;
      allocator = fresh_allocator size count;
      paced = filled-all (view xs).paced 16 0x1800 s.paced i;
      requests = filled-all (view xs).requests 32 no_request s.requests i;
      control = no_control;
      wakes = none_woken;
    }
