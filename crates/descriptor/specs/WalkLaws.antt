-- Laws on the definitions of Walk.antt
use Rattle.std.specs.Prelude.{◌≡◌, refl, Bool, true, false, cond, not, ◌&&◌, List, [], ◌∷◌, ℕ, ◌+◌, ◌*◌, ◌%◌, ◌≤◌, ◌<◌, eqb, length, get_or, drop}
use Rattle.std.proofs.Common.{sym, ap, ◌∙◌, arith, length-drop, get_or-drop, eqb-true}
use Rattle.descriptor.specs.declared.Endpoint.{Endpoint}
use Rattle.descriptor.specs.declared.Endpoints.{Endpoints}
use Rattle.descriptor.specs.Row.{kind_of, entered, is_row, is_configuration, endpoint_of, setting_of, is_meant}
use Rattle.descriptor.specs.Row.{endpoints_of}
use Rattle.descriptor.specs.Endpoints.{of_list, listed, noted, gathered, agrees, agree}
use Rattle.descriptor.specs.RowLaws.{whole_is, both_true, clear-endpoint, next-at, here, step}
use Rattle.descriptor.specs.RowLaws.{endpoints-none, endpoints-more, configuration-is, least-configuration}
use Rattle.descriptor.specs.Lists.{Fine, Tidy}
use Rattle.descriptor.specs.ListsLaws.{tidy_of, listed_of, good-noted}
use Rattle.descriptor.specs.Walk.{Sound}

-- ---- what is read there

pub setting-at : (s : List ℕ) (at t : ℕ) → setting_of t (drop at s)
    ≡ cond (eqb (get_or s (at + 1) 0) 4) (get_or s (at + 3) 0) t
unfolding setting_of
setting-at s at t = rw (get_or-drop at s 1 0, get_or-drop at s 3 0)

pub meant-at : (s : List ℕ) (at : ℕ) (z : Bool) (t : ℕ)
    → is_meant z t (drop at s) ≡ (eqb (get_or s (at + 1) 0) 5 && cond z (eqb t 0) (not (eqb t 0)))
unfolding is_meant
meant-at s at z t = rw (get_or-drop at s 1 0)

pub endpoint-at : (s : List ℕ) (at : ℕ) → endpoint_of (drop at s) ≡ record {
  address = get_or s (at + 2) 0;
  kind = get_or s (at + 3) 0 % 4;
  maximum = (get_or s (at + 4) 0 + get_or s (at + 5) 0 * 256) % 2048;
  interval = get_or s (at + 6) 0;
}
unfolding endpoint_of
endpoint-at s at = rw (
  get_or-drop at s 2 0,
  get_or-drop at s 3 0,
  get_or-drop at s 4 0,
  get_or-drop at s 5 0,
  get_or-drop at s 6
      0,
)

-- what is meant is an endpoint
pub meant-endpoint : (s : List ℕ) (at : ℕ) (z : Bool) (t : ℕ) → is_meant z t (drop at s) ≡ true → get_or s (at + 1) 0 ≡ 5
meant-endpoint s at z t h = eqb-true _ _ (both_true _ _ (sym (meant-at s at z t) ∙ h)).0

pub fine-at : (s : List ℕ) (at : ℕ) → Sound s at → get_or s (at + 1) 0 ≡ 5 → Fine (endpoint_of (drop at s))
fine-at s at h e = rw (endpoint-at s at) (record {
  address = h.bytes (at + 2);
  clear = h.clear e;
  kind = omega arith;
  maximum = omega arith;
  interval = h.bytes (at + 6);
})

-- ---- one step

-- the rest of a row after the descriptor at `at`, which is sound
pub record On (n : ℕ) (s : List ℕ) (at : ℕ) (z : Bool) (t : ℕ) : Type 0 where
  pub sound : Sound s at
  pub left : ℕ
  pub inside : Bool
  pub row : is_row left inside (drop (at + get_or s at 0) s) ≡ true
  pub found : endpoints_of n z t (drop at s)
      ≡ cond (is_meant z (setting_of t (drop at s)) (drop at s))
      (endpoint_of (drop at s) ∷ endpoints_of left z (setting_of t (drop at s)) (drop (at + get_or s at 0) s))
      (endpoints_of left z (setting_of t (drop at s)) (drop (at + get_or s at 0) s))

pub on : (n : ℕ) (inside : Bool) (s : List ℕ) (at : ℕ) (z : Bool) (t : ℕ) → ((j : ℕ) → get_or s j 0 < 256) → at < length s
    → is_row n inside (drop at s) ≡ true → On n s at z t
on n inside s at z t b l h =
    let d = drop at s in
    let some : 0 < length d = omega (arith, length-drop at s) in
    let x = step n inside d some h in
    record {
      sound = record {
        bytes = b;
        here = here s at (omega arith) x.first;
        clear = λ e. rw (get_or-drop at s 2 0) at (clear-endpoint inside d x.may (get_or-drop at s 1 0 ∙ e));
      };
      left = x.left;
      inside = entered inside d;
      row = rw (next-at s at) at x.rest;
      found = ap (λ (k : ℕ). endpoints_of k z t d) x.one ∙ endpoints-more x.left z t d some ∙ rw (next-at s at);
    }

-- ---- the first descriptor of all

pub record Begins (s : List ℕ) : Type 0 where
  pub some : 9 ≤ length s
  pub fits : get_or s 0 0 ≤ length s
  pub row : is_row (length s) false (drop (get_or s 0 0) s) ≡ true

pub begins : (s : List ℕ) → is_configuration s ≡ true → Begins s
begins s h =
    let c = configuration-is s h in
    let w = whole_is s c.first in
    let two = w.two in
    let long = w.long in
    let fits = w.fits in
    record { some = omega (arith, least-configuration (kind_of s) c.kind); fits = fits; row = c.row }

-- ---- taken up, agreed

pub gather-on : (list : Endpoints) (z : Bool) (e : Endpoint) (es : List Endpoint)
    → gathered (listed list) (cond z (e ∷ es) es) ≡ gathered (listed (cond z (of_list (noted e (listed list))) list)) es
unfolding gathered
gather-on list true e es = rw (listed_of (noted e (listed list)))
gather-on list false e es = refl

pub gather_none : (list : List Endpoint) → gathered list [] ≡ list
unfolding gathered
gather_none list = refl

pub tidy-on : (list : Endpoints) (z : Bool) (e : Endpoint) → Tidy list → (z ≡ true → Fine e)
    → Tidy (cond z (of_list (noted e (listed list))) list)
tidy-on list true e t f = tidy_of (noted e (listed list)) (good-noted e (listed list) (f refl) t.good)
tidy-on list false e t f = t

pub agree_on : (list : List Endpoint) (z : Bool) (e : Endpoint) (es : List Endpoint)
    → agree list (cond z (e ∷ es) es) ≡ (cond z (agrees e list) true && agree list es)
unfolding agree
agree_on list true e es = refl
agree_on list false e es = refl

pub agree-none : (list : List Endpoint) → agree list [] ≡ true
unfolding agree
agree-none list = refl

module _ (n : ℕ) (s : List ℕ) (at : ℕ) (z : Bool) (t : ℕ) (o : On n s at z t) where
  abbrev pub meant : Bool
  meant = is_meant z (setting_of t (drop at s)) (drop at s)

  abbrev pub rest : List Endpoint
  rest = endpoints_of o.left z (setting_of t (drop at s)) (drop (at + get_or s at 0) s)

  pub gather-at : (list : Endpoints)
      → gathered (listed list) (endpoints_of n z t (drop at s))
      ≡ gathered (listed (cond meant (of_list (noted (endpoint_of (drop at s)) (listed list))) list)) rest
  gather-at list =
      ap (λ (es : List Endpoint). gathered (listed list) es) o.found
      ∙ gather-on list meant (endpoint_of (drop at s)) rest

  pub agree_at : (list : List Endpoint)
      → agree list (endpoints_of n z t (drop at s)) ≡ (cond meant (agrees (endpoint_of (drop at s)) list) true
      && agree list rest)
  agree_at list = ap (λ (es : List Endpoint). agree list es) o.found
      ∙ agree_on list meant (endpoint_of (drop at s)) rest

  pub tidy-at : (list : Endpoints) → Tidy list → Tidy (cond meant
      (of_list (noted (endpoint_of (drop at s)) (listed list))) list)
  tidy-at list d = tidy-on list meant (endpoint_of (drop at s)) d
      (λ q. fine-at s at o.sound (meant-endpoint s at z (setting_of t (drop at s)) q))

-- after the last one
module _ (n : ℕ) (s : List ℕ) (at : ℕ) (z : Bool) (t : ℕ) (over : length s ≤ at) where
  none_left : endpoints_of n z t (drop at s) ≡ []
  none_left = endpoints-none n z t (drop at s) (omega (arith, length-drop at s))

  pub gather-over : (list : List Endpoint) → gathered list (endpoints_of n z t (drop at s)) ≡ list
  gather-over list = rw none_left (gather_none list)

  pub agree-over : (list : List Endpoint) → agree list (endpoints_of n z t (drop at s)) ≡ true
  agree-over list = rw none_left (agree-none list)
