-- One record stored: the view has it in place of the old one and is else as it was. What is loaded is the view's.
-- Assumes nothing.
use Rattle.std.proofs.Common.{◌≡◌, ℕ, ◌+◌, ◌*◌, ◌%◌, ◌<◌, ◌≤◌, Bool, true, false, cond, ◌||◌, leb, ◌⊎◌, List, length, get_or, set, refl, ap, ◌∙◌, inl, inr, ⊎_elim, arith, leb-true}
use Rattle.regs.specs.declared.Dir.{Dir}
use Rattle.state.specs.declared.EpState.{EpState}
use Rattle.state.specs.declared.Allocator.{Allocator}
use Rattle.state.specs.declared.Globals.{Globals}
use Rattle.state.specs.declared.Request.{Request}
use Rattle.state.specs.declared.Control.{Control}
use Rattle.state.specs.declared.Saved.{Saved}
use Rattle.bits.specs.Bytes.{gets, puts, number, digits, numbers, bytes, Each}
use Rattle.state.specs.Codec.{ep_widths, ep_as, ep_of, allocator_widths, allocator_as, allocator_of, globals_widths}
use Rattle.state.specs.Codec.{globals_as, globals_of, request_widths, request_as, request_of, control_widths, control_as}
use Rattle.state.specs.Codec.{control_of, saved_widths, saved_as, saved_of}
use Rattle.state.specs.Wakes.{with_count, with_codes}
use Rattle.state.specs.Driver.{Driver, key, len_key, stamp_key, no_ep, no_request, with_eps, with_lens, with_stamps}
use Rattle.state.specs.Driver.{with_paced, with_requests, with_globals, with_allocator, with_control, with_wakes, ep_on}
use Rattle.state.specs.Driver.{with_on, len_on, with_len_on, stamp_on, with_stamp_on, paced_on, with_paced_on, request_on}
use Rattle.state.specs.Driver.{with_request_on}
use Rattle.state.specs.State.{ep_in, allocator_in, globals_in, request_in, control_in, saved_in, view, saved}
use Rattle.bits.specs.Runs.{Same, puts-same, gets-same, gets-puts}
use Rattle.bits.specs.Numbers.{Fit, number_digits, numbers-bytes, each-eq}
use Rattle.bits.specs.Tables.{table}
use Rattle.bits.specs.TablesLaws.{table_same, table-set, table_at}

-- the bytes from p up to q lie before lo, or from hi on
abbrev outside : ℕ → ℕ → ℕ → ℕ → Bool
outside lo hi p q = leb q lo || leb hi p

outside-off : (lo hi p q : ℕ) → outside lo hi p q ≡ true → (q ≤ lo) ⊎ (hi ≤ p)
outside-off lo hi p q h = side (leb q lo) refl h
  where
    side : (b : Bool) → leb q lo ≡ b → (b || leb hi p) ≡ true → (q ≤ lo) ⊎ (hi ≤ p)
    side true e h = inl (leb-true q lo e)
    side false e h = inr (leb-true hi p h)

chosen : {A : Type 0} (b : Bool) (old new : A) → (b ≡ true → new ≡ old) → new ≡ cond b old new
chosen true old new h = h refl
chosen false old new h = refl

-- the parts of d that lie outside lo to hi, and of e the one that lies there
abbrev mixed : ℕ → ℕ → Driver → Driver → Driver
mixed lo hi d e = record {
  eps = cond (outside lo hi 40 1064) d.eps e.eps;
  lens = cond (outside lo hi 1966 2990) d.lens e.lens;
  stamps = cond (outside lo hi 1454 1966) d.stamps e.stamps;
  globals = cond (outside lo hi 1320 1357) d.globals e.globals;
  allocator = cond (outside lo hi 22 40) d.allocator e.allocator;
  paced = cond (outside lo hi 1422 1454) d.paced e.paced;
  requests = cond (outside lo hi 1064 1320) d.requests e.requests;
  control = cond (outside lo hi 2990 2999) d.control e.control;
  wakes = record {
    count = cond (outside lo hi 1357 1358) d.wakes.count e.wakes.count;
    codes = cond (outside lo hi 1358 1422) d.wakes.codes e.wakes.codes;
  };
}

-- bytes are stored from lo up to hi: what lies elsewhere is as it was
module _ (xs : List ℕ) (o : ℕ) (bs : List ℕ) (lo hi : ℕ) (from : lo ≤ o) (to : o + length bs ≤ hi) where
  same : (p q : ℕ) → outside lo hi p q ≡ true → Same xs (puts xs o 0 bs) p q
  same p q h =
      puts-same xs o bs p q (⊎_elim (λ (l : q ≤ lo). inl (omega arith)) (λ (l : hi ≤ p). inr (omega arith))
      (outside-off lo hi p q h))

  one : {A : Type 0} (f : List ℕ → A) (p n : ℕ)
      → f (gets (puts xs o 0 bs) p 0 n) ≡ cond (outside lo hi p (p + n)) (f (gets xs p 0 n))
      (f (gets (puts xs o 0 bs) p 0 n))
  one f p n = chosen (outside lo hi p (p + n)) _ _ (λ h. ap f (gets-same xs (puts xs o 0 bs) p n (same p (p + n) h)))

  many : {A : Type 0} (f : List ℕ → A) (p n z : ℕ)
      → table (puts xs o 0 bs) p n z f ≡ cond (outside lo hi p (p + n * z)) (table xs p n z f)
      (table (puts xs o 0 bs) p n z f)
  many f p n z = chosen (outside lo hi p (p + n * z)) _ _
      (λ h. table_same f p n z xs (puts xs o 0 bs) (same p (p + n * z) h))

  stored : view (puts xs o 0 bs) ≡ mixed lo hi (view xs) (view (puts xs o 0 bs))
  unfolding view
  stored = λ i. record {
    eps = many ep_in 40 32 32 i;
    lens = many number 1966 512 2 i;
    stamps = many number 1454 256 2 i;
    globals = one globals_in 1320 37 i;
    allocator = one allocator_in 22 18 i;
    paced = many number 1422 16 2 i;
    requests = many request_in 1064 32 8 i;
    control = one control_in 2990 9 i;
    wakes = record { count = one number 1357 1 i; codes = many number 1358 64 1 i };
  }

-- what is stored before the suspended operation leaves it
pub saved-off : (xs : List ℕ) (o : ℕ) (bs : List ℕ) → 22 ≤ o → saved (puts xs o 0 bs) ≡ saved xs
unfolding saved
saved-off xs o bs h = ap saved_in (gets-same xs (puts xs o 0 bs) 0 22 (puts-same xs o bs 0 22 (inl h)))

-- so the view becomes d and nothing else changes
abbrev pub Becomes : List ℕ → List ℕ → Driver → Type 0
Becomes xs ys d = (view ys ≡ d) × (saved ys ≡ saved xs)

pub becomes : (xs : List ℕ) (o : ℕ) (bs ys : List ℕ) (d : Driver) → 22 ≤ o → view (puts xs o 0 bs) ≡ d → ys
    ≡ puts xs o 0 bs → Becomes xs ys d
becomes xs o bs ys d l v e = (ap view e ∙ v, ap saved e ∙ saved-off xs o bs l)

-- numbers of the widths ws on their own, read back
back : {A : Type 0} (xs : List ℕ) (of : List ℕ → A) (ws vs : List ℕ) (o : ℕ) (r : A) → o + length (bytes ws vs)
    ≤ length xs
    → Fit ws vs → of vs ≡ r → of (numbers ws (gets (puts xs o 0 (bytes ws vs)) o 0 (length (bytes ws vs)))) ≡ r
back xs of ws vs o r h f q = ap (λ (b : List ℕ). of (numbers ws b)) (gets-puts xs o (bytes ws vs) h)
    ∙ ap of (numbers-bytes ws vs f) ∙ q

module _ (xs : List ℕ) (sized : length xs ≡ 2999) where
  pub view-eps : (k : ℕ) (r : EpState) → k < 32 → view (puts xs (40 + k * 32) 0 (bytes ep_widths (ep_as r)))
      ≡ with_eps (view xs) (set (view xs).eps k r)
  unfolding view
  view-eps k r l =
      let bs = bytes ep_widths (ep_as r) in
      stored xs (40 + k * 32) bs 40 1064 (omega arith) (omega arith)
      ∙ ap (with_eps (view xs)) (table-set ep_in 40 32 32 xs k bs r l (omega arith) refl
      (ap ep_of (numbers-bytes ep_widths (ep_as r) tt)))

  pub view-lens : (k v : ℕ) → k < 512 → view (puts xs (1966 + k * 2) 0 (digits 2 v))
      ≡ with_lens (view xs) (set (view xs).lens k v)
  unfolding view
  view-lens k v l =
      stored xs (1966 + k * 2) (digits 2 v) 1966 2990 (omega arith) (omega arith)
      ∙ ap (with_lens (view xs)) (table-set number 1966 512 2 xs k (digits 2 v) v l (omega arith) refl
      (number_digits 1 v))

  pub view-stamps : (k v : ℕ) → k < 256 → view (puts xs (1454 + k * 2) 0 (digits 2 v))
      ≡ with_stamps (view xs) (set (view xs).stamps k v)
  unfolding view
  view-stamps k v l =
      stored xs (1454 + k * 2) (digits 2 v) 1454 1966 (omega arith) (omega arith)
      ∙ ap (with_stamps (view xs)) (table-set number 1454 256 2 xs k (digits 2 v) v l (omega arith) refl
      (number_digits 1 v))

  pub view-globals : (r : Globals) → view (puts xs 1320 0 (bytes globals_widths (globals_as r))) ≡ with_globals (view xs) r
  unfolding view
  view-globals r =
      stored xs 1320 (bytes globals_widths (globals_as r)) 1320 1357 (omega arith) (omega arith)
      ∙ ap (with_globals (view xs)) (back xs globals_of globals_widths (globals_as r) 1320 r (omega arith) tt refl)

  pub view-allocator : (r : Allocator) → view (puts xs 22 0 (bytes allocator_widths (allocator_as r)))
      ≡ with_allocator (view xs) r
  unfolding view
  view-allocator r =
      stored xs 22 (bytes allocator_widths (allocator_as r)) 22 40 (omega arith) (omega arith)
      ∙ ap (with_allocator (view xs)) (back xs allocator_of allocator_widths (allocator_as r) 22 r (omega arith) tt refl)

  pub view-paceds : (k v : ℕ) → k < 16 → view (puts xs (1422 + k * 2) 0 (digits 2 v))
      ≡ with_paced (view xs) (set (view xs).paced k v)
  unfolding view
  view-paceds k v l =
      stored xs (1422 + k * 2) (digits 2 v) 1422 1454 (omega arith) (omega arith)
      ∙ ap (with_paced (view xs)) (table-set number 1422 16 2 xs k (digits 2 v) v l (omega arith) refl
      (number_digits 1 v))

  pub view-requests : (k : ℕ) (r : Request) → k < 32 → view
      (puts xs (1064 + k * 8) 0 (bytes request_widths (request_as r)))
      ≡ with_requests (view xs) (set (view xs).requests k r)
  unfolding view
  view-requests k r l =
      let bs = bytes request_widths (request_as r) in
      stored xs (1064 + k * 8) bs 1064 1320 (omega arith) (omega arith)
      ∙ ap (with_requests (view xs))
      (table-set request_in 1064 32 8 xs k bs r l (omega arith) refl
      (ap request_of (numbers-bytes request_widths (request_as r) tt)))

  pub view-control : (r : Control) → view (puts xs 2990 0 (bytes control_widths (control_as r))) ≡ with_control (view xs) r
  unfolding view
  view-control r =
      stored xs 2990 (bytes control_widths (control_as r)) 2990 2999 (omega arith) (omega arith)
      ∙ ap (with_control (view xs)) (back xs control_of control_widths (control_as r) 2990 r (omega arith) tt refl)

  pub view-count : (v : ℕ) → view (puts xs 1357 0 (digits 1 v)) ≡ with_wakes (view xs) (with_count (view xs).wakes v)
  unfolding view
  view-count v =
      stored xs 1357 (digits 1 v) 1357 1358 (omega arith) (omega arith)
      ∙ ap (λ (n : ℕ). with_wakes (view xs) (with_count (view xs).wakes n))
      (ap number (gets-puts xs 1357 (digits 1 v) (omega arith)) ∙ number_digits 0 v)

  pub view-codes : (k v : ℕ) → k < 64 → view (puts xs (1358 + k * 1) 0 (digits 1 v))
      ≡ with_wakes (view xs) (with_codes (view xs).wakes (set (view xs).wakes.codes k v))
  unfolding view
  view-codes k v l =
      stored xs (1358 + k * 1) (digits 1 v) 1358 1422 (omega arith) (omega arith)
      ∙ ap (λ (w : List ℕ). with_wakes (view xs) (with_codes (view xs).wakes w))
      (table-set number 1358 64 1 xs k (digits 1 v) v l (omega arith) refl (number_digits 0 v))

  pub view-saved : (r : Saved) → view (puts xs 0 0 (bytes saved_widths (saved_as r))) ≡ view xs
  unfolding view
  view-saved r = stored xs 0 (bytes saved_widths (saved_as r)) 0 22 (omega arith) (omega arith)

  pub saved-saved : (r : Saved) → saved (puts xs 0 0 (bytes saved_widths (saved_as r))) ≡ r
  unfolding saved
  saved-saved r = back xs saved_of saved_widths (saved_as r) 0 r (omega arith) tt refl

  -- a record of a table, stored at the place of an endpoint
  pub ep-stored : (dir : Dir) (e k : ℕ) (r : EpState) (ys : List ℕ) → (k ≡ key dir e) × (k < 32)
      → ys ≡ puts xs (40 + k * 32) 0 (bytes ep_widths (ep_as r)) → Becomes xs ys (with_on (view xs) dir e r)
  unfolding with_on
  ep-stored dir e k r ys p = becomes xs (40 + k * 32) (bytes ep_widths (ep_as r)) ys (with_on (view xs) dir e r)
      (omega (arith, p.1))
      (view-eps k r p.1 ∙ ap (λ (j : ℕ). with_eps (view xs) (set (view xs).eps j r)) p.0)

  pub len-stored : (dir : Dir) (e i k v : ℕ) (ys : List ℕ) → (k ≡ len_key dir e i) × (k < 512)
      → ys ≡ puts xs (1966 + k * 2) 0 (digits 2 v) → Becomes xs ys (with_len_on (view xs) dir e i v)
  unfolding with_len_on
  len-stored dir e i k v ys p = becomes xs (1966 + k * 2) (digits 2 v) ys (with_len_on (view xs) dir e i v)
      (omega (arith, p.1))
      (view-lens k v p.1 ∙ ap (λ (j : ℕ). with_lens (view xs) (set (view xs).lens j v)) p.0)

  pub stamp-stored : (e i k v : ℕ) (ys : List ℕ) → (k ≡ stamp_key e i) × (k < 256)
      → ys ≡ puts xs (1454 + k * 2) 0 (digits 2 v) → Becomes xs ys (with_stamp_on (view xs) e i v)
  unfolding with_stamp_on
  stamp-stored e i k v ys p = becomes xs (1454 + k * 2) (digits 2 v) ys (with_stamp_on (view xs) e i v)
      (omega (arith, p.1))
      (view-stamps k v p.1 ∙ ap (λ (j : ℕ). with_stamps (view xs) (set (view xs).stamps j v)) p.0)

  pub paced-stored : (e v : ℕ) (ys : List ℕ) → ys ≡ puts xs (1422 + e % 16 * 2) 0 (digits 2 v)
      → Becomes xs ys (with_paced_on (view xs) e v)
  unfolding with_paced_on
  paced-stored e v ys = becomes xs (1422 + e % 16 * 2) (digits 2 v) ys (with_paced_on (view xs) e v) (omega arith)
      (view-paceds (e % 16) v (omega arith))

  pub request-stored : (dir : Dir) (e k : ℕ) (r : Request) (ys : List ℕ) → (k ≡ key dir e) × (k < 32)
      → ys ≡ puts xs (1064 + k * 8) 0 (bytes request_widths (request_as r))
      → Becomes xs ys (with_request_on (view xs) dir e r)
  unfolding with_request_on
  request-stored dir e k r ys p = becomes xs (1064 + k * 8) (bytes request_widths (request_as r)) ys
      (with_request_on (view xs) dir e r) (omega (arith, p.1))
      (view-requests k r p.1 ∙ ap (λ (j : ℕ). with_requests (view xs) (set (view xs).requests j r)) p.0)

-- what is loaded
module _ (xs : List ℕ) where
  pub ep-there : (k : ℕ) (r : EpState)
      → k < 32 → Each (ep_as r) (numbers ep_widths (gets xs (40 + k * 32) 0 32)) → r ≡ get_or (view xs).eps k no_ep
  unfolding view
  ep-there k r l h = ap ep_of (each-eq (ep_as r) (numbers ep_widths (gets xs (40 + k * 32) 0 32)) h)
      ∙ table_at ep_in 40 32 32 xs k no_ep l

  pub ep-at : (dir : Dir) (e k : ℕ) (r : EpState)
      → k ≡ key dir e → k < 32 → Each (ep_as r) (numbers ep_widths (gets xs (40 + k * 32) 0 32)) → r
      ≡ ep_on (view xs) dir e
  unfolding ep_on
  ep-at dir e k r p l h = ep-there k r l h ∙ ap (λ (j : ℕ). get_or (view xs).eps j no_ep) p

  pub len-at : (dir : Dir) (e i k : ℕ) → k ≡ len_key dir e i → k < 512 → number (gets xs (1966 + k * 2) 0 2)
      ≡ len_on (view xs) dir e i
  unfolding view len_on
  len-at dir e i k p l = table_at number 1966 512 2 xs k 0 l ∙ ap (λ (j : ℕ). get_or (view xs).lens j 0) p

  pub stamp-at : (e i k : ℕ) → k ≡ stamp_key e i → k < 256 → number (gets xs (1454 + k * 2) 0 2) ≡ stamp_on (view xs) e i
  unfolding view stamp_on
  stamp-at e i k p l = table_at number 1454 256 2 xs k 0 l ∙ ap (λ (j : ℕ). get_or (view xs).stamps j 0) p

  pub paced-at : (e : ℕ) → number (gets xs (1422 + e % 16 * 2) 0 2) ≡ paced_on (view xs) e
  unfolding view paced_on
  paced-at e = table_at number 1422 16 2 xs (e % 16) 0 (omega arith)

  pub code_at : (k : ℕ) → number (gets xs (1358 + k % 64 * 1) 0 1) ≡ get_or (view xs).wakes.codes (k % 64) 0
  unfolding view
  code_at k = table_at number 1358 64 1 xs (k % 64) 0 (omega arith)

  pub request-at : (dir : Dir) (e k : ℕ) (r : Request) → k ≡ key dir e
      → k < 32 → Each (request_as r) (numbers request_widths (gets xs (1064 + k * 8) 0 8)) → r ≡ request_on (view xs) dir e
  unfolding view request_on
  request-at dir e k r p l h = ap request_of (each-eq (request_as r) (numbers request_widths (gets xs (1064 + k * 8) 0 8))
      h)
      ∙ table_at request_in 1064 32 8 xs k no_request l ∙ ap (λ (j : ℕ). get_or (view xs).requests j no_request) p
