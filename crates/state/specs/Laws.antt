-- Storing one record changes that record of the view and nothing else; storing what was there changes nothing. Assumes
-- nothing.
use Rattle.std.specs.Prelude.{◌≡◌, ℕ, ◌+◌, ◌*◌, ◌%◌, ◌<◌, ◌≢◌, List, length, refl}
use Rattle.std.proofs.Math.Path.{ap}
use Rattle.std.proofs.Common.{arith, set-set}
use Rattle.std.proofs.Math.Seq.{get_or-set_same, get_or-set_other}
use Rattle.std.proofs.lemmas.List.{set-get_or}
use Rattle.bits.specs.Bytes.{gets, number}
use Rattle.bits.specs.TablesLaws.{length-tab}
use Rattle.regs.specs.declared.Dir.{Dir}
use Rattle.regs.specs.declared.Dir.TheVariants.{Out, In}
use Rattle.state.specs.declared.EpState.{EpState}
use Rattle.state.specs.declared.Request.{Request}
use Rattle.state.specs.Driver.{Driver, key, len_key, stamp_key, no_ep, no_request, with_eps, with_lens, with_stamps}
use Rattle.state.specs.Driver.{with_paced, with_requests, ep_on, with_on, len_on, with_len_on, stamp_on, with_stamp_on}
use Rattle.state.specs.Driver.{paced_on, with_paced_on, request_on, with_request_on}
use Rattle.state.specs.State.{view, ep_in, request_in}

-- every endpoint has its place
pub record Sized (d : Driver) : Type 0 where
  pub eps : length d.eps ≡ 32
  pub lens : length d.lens ≡ 512
  pub stamps : length d.stamps ≡ 256
  pub paced : length d.paced ≡ 16
  pub requests : length d.requests ≡ 32

pub view-sized : (xs : List ℕ) → Sized (view xs)
unfolding view
view-sized xs = record {
  eps = length-tab (λ k. ep_in (gets xs (40 + k * 32) 0 32)) 32;
  lens = length-tab (λ k. number (gets xs (1966 + k * 2) 0 2)) 512;
  stamps = length-tab (λ k. number (gets xs (1454 + k * 2) 0 2)) 256;
  paced = length-tab (λ k. number (gets xs (1422 + k * 2) 0 2)) 16;
  requests = length-tab (λ k. request_in (gets xs (1064 + k * 8) 0 8)) 32;
}

-- room for 64 wake-ups
pub view-codes : (xs : List ℕ) → length (view xs).wakes.codes ≡ 64
unfolding view
view-codes xs = length-tab (λ k. number (gets xs (1358 + k * 1) 0 1)) 64

pub key-lt : (dir : Dir) (e : ℕ) → key dir e < 32
unfolding key
key-lt Out e = omega arith
key-lt In e = omega arith

-- an OUT endpoint's place is no IN endpoint's
pub key_apart : (e f : ℕ) → key Out e ≢ key In f
unfolding key
key_apart e f h = omega arith

pub key-same : (dir : Dir) (e f : ℕ) → key dir e ≡ key dir f → e % 16 ≡ f % 16
unfolding key
key-same Out e f h = omega arith
key-same In e f h = omega arith

pub len_key-lt : (dir : Dir) (e i : ℕ) → len_key dir e i < 512
unfolding len_key
len_key-lt dir e i = omega (arith, key-lt dir e)

pub stamp_key-lt : (e i : ℕ) → stamp_key e i < 256
unfolding stamp_key
stamp_key-lt e i = omega arith

-- two slots of one OUT endpoint, or of two
pub stamp_key-same : (e i f j : ℕ) → stamp_key e i ≡ stamp_key f j → (e % 16 ≡ f % 16) × (i % 16 ≡ j % 16)
unfolding stamp_key
stamp_key-same e i f j h = (omega arith, omega arith)

module _ (d : Driver) (dir : Dir) (e : ℕ) where
  -- a record that was stored and is loaded again is itself
  pub ep_on-stored : (r : EpState) → length d.eps ≡ 32 → ep_on (with_on d dir e r) dir e ≡ r
  unfolding ep_on with_on
  ep_on-stored r h = get_or-set_same d.eps (key dir e) r no_ep (omega (arith, h, key-lt dir e))

  pub ep_on-same : (r : EpState) → Sized d → ep_on (with_on d dir e r) dir e ≡ r
  ep_on-same r s = ep_on-stored r s.eps

  -- of two stores at one place the second is what counts
  pub with_on-twice : (r q : EpState) → with_on (with_on d dir e r) dir e q ≡ with_on d dir e q
  unfolding with_on
  with_on-twice r q = ap (with_eps d) (set-set d.eps (key dir e) r q)

  pub ep_on-other : (r : EpState) (dir' : Dir) (e' : ℕ) → key dir' e' ≢ key dir e → ep_on (with_on d dir e r) dir' e'
      ≡ ep_on d dir' e'
  unfolding ep_on with_on
  ep_on-other r dir' e' h = get_or-set_other d.eps (key dir e) (key dir' e') r no_ep h

  pub with_on-back : with_on d dir e (ep_on d dir e) ≡ d
  unfolding with_on ep_on
  with_on-back = ap (with_eps d) (set-get_or d.eps (key dir e) no_ep)

  pub len_on-same : (i v : ℕ) → Sized d → len_on (with_len_on d dir e i v) dir e i ≡ v
  unfolding len_on with_len_on
  len_on-same i v s = get_or-set_same d.lens (len_key dir e i) v 0 (omega (arith, s.lens, len_key-lt dir e i))

  pub len_on-other : (i v : ℕ) (dir' : Dir) (e' i' : ℕ) → len_key dir' e' i' ≢ len_key dir e i
      → len_on (with_len_on d dir e i v) dir' e' i' ≡ len_on d dir' e' i'
  unfolding len_on with_len_on
  len_on-other i v dir' e' i' h = get_or-set_other d.lens (len_key dir e i) (len_key dir' e' i') v 0 h

  pub request_on-same : (r : Request) → Sized d → request_on (with_request_on d dir e r) dir e ≡ r
  unfolding request_on with_request_on
  request_on-same r s = get_or-set_same d.requests (key dir e) r no_request (omega (arith, s.requests, key-lt dir e))

  pub request_on-other : (r : Request) (dir' : Dir) (e' : ℕ) → key dir' e' ≢ key dir e
      → request_on (with_request_on d dir e r) dir' e' ≡ request_on d dir' e'
  unfolding request_on with_request_on
  request_on-other r dir' e' h = get_or-set_other d.requests (key dir e) (key dir' e') r no_request h

module _ (d : Driver) (e : ℕ) where
  pub stamp_on-same : (i v : ℕ) → Sized d → stamp_on (with_stamp_on d e i v) e i ≡ v
  unfolding stamp_on with_stamp_on
  stamp_on-same i v s = get_or-set_same d.stamps (stamp_key e i) v 0 (omega (arith, s.stamps, stamp_key-lt e i))

  pub stamp_on-other : (i v e' i' : ℕ) → stamp_key e' i' ≢ stamp_key e i → stamp_on (with_stamp_on d e i v) e' i'
      ≡ stamp_on d e' i'
  unfolding stamp_on with_stamp_on
  stamp_on-other i v e' i' h = get_or-set_other d.stamps (stamp_key e i) (stamp_key e' i') v 0 h

  pub paced_on-same : (v : ℕ) → Sized d → paced_on (with_paced_on d e v) e ≡ v
  unfolding paced_on with_paced_on
  paced_on-same v s = get_or-set_same d.paced (e % 16) v 0 (omega (arith, s.paced))

  pub paced_on-other : (v e' : ℕ) → e' % 16 ≢ e % 16 → paced_on (with_paced_on d e v) e' ≡ paced_on d e'
  unfolding paced_on with_paced_on
  paced_on-other v e' h = get_or-set_other d.paced (e % 16) (e' % 16) v 0 h

-- each store leaves all but its own table
pub its_own_lem : (d : Driver) (dir : Dir) (e i v : ℕ) (r : EpState) (q : Request) →
    (with_on d dir e r ≡ with_eps d (with_on d dir e r).eps)
    × (with_len_on d dir e i v ≡ with_lens d (with_len_on d dir e i v).lens)
    × (with_stamp_on d e i v ≡ with_stamps d (with_stamp_on d e i v).stamps)
    × (with_paced_on d e v ≡ with_paced d (with_paced_on d e v).paced)
    × (with_request_on d dir e q ≡ with_requests d (with_request_on d dir e q).requests)
unfolding with_on with_len_on with_stamp_on with_paced_on with_request_on
its_own_lem d dir e i v r q = (refl, refl, refl, refl, refl)
