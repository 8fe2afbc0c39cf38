-- A poll of the channel's read ends at once and changes nothing but the channel's data
use Rattle.std.specs.Prelude.{Bool, true, false, cond, ◌≡◌, ℕ}
use Rattle.std.proofs.Math.Path.{refl, sym}
use Rattle.std.proofs.Common.{ap, ◌∙◌}
use Rattle.regs.specs.declared.Dir.TheVariants.{Out}
use Rattle.state.specs.declared.EpState.{EpState}
use Rattle.state.specs.declared.Request.{Request}
use Rattle.state.specs.Driver.{Driver, key, ep_on, with_on, len_on, stamp_on, with_request_on}
use Rattle.state.specs.Laws.{ep_on-same, request_on-other}
use Rattle.ring.specs.OnlyLaws.{only-refl}
use Rattle.ring.specs.Slot.{has_waiting, passed_of}
use Rattle.ring.specs.Out.{closed_of}
use Rattle.script.specs.Cells.{EpCore, globals-cell, allocator-cell, ep-cell, request-cell}
use Rattle.script.specs.Script.{run, waiting, oldest, received, take_oldest}
use Rattle.script.specs.Statics.{with_ready, modify_ep}
use Rattle.script.specs.Answers.{Answer}
use Rattle.script.specs.Endpoint.{ends_request, take_iso, take_ready, poll_read}
use Rattle.script.specs.Simulates.{quiet}
use Rattle.script_ops.specs.Records.{plain_of}
use Rattle.script_ops.specs.Rings.{St, take_on}
use Rattle.script_ops.specs.Concrete.{concrete, put_on, act_on}
use Rattle.proof_book.specs.LensLaws.{key-ep}
use Rattle.proof_book.specs.FrameLaws.{Changed, changed-on}
use Rattle.proof_isolation.specs.EqualExcept.{Stays, Beside, Lawful, Channel, Touched}
use Rattle.proof_isolation.specs.LikesLaws.{own-changed, but-refl, touched-refl, touched-trans}
use Rattle.proof_isolation.specs.ButsLaws.{but-parts, lawful-put, lawful-act}
use Rattle.proof_isolation.specs.Ending.{Finished, fin}
use Rattle.proof_isolation.specs.EndingLaws.{Brief, b-ret, b-bind, b-test, b-get, b-is, b-fetch, b-act, b-put}

-- its number may be brought in any way (row 5 comes after)
changed-key : {e x : ℕ} {d d' : Driver} → key Out e ≡ key Out x → Changed Out e d d' → Changed Out x d d'
changed-key {e} {x} {d} {d'} p c = record {
  sized = c.sized;
  globals = c.globals;
  wakes = c.wakes;
  control = c.control;
  allocator = c.allocator;
  paced = c.paced;
  requests = c.requests;
  eps = λ dir f n. c.eps dir f (λ q. n (q ∙ p));
  lens = λ dir f n. c.lens dir f (λ q. n (q ∙ p));
  stamps = λ f n. c.stamps f (λ q. n (q ∙ p));
  place = rw (key-ep d Out Out x e (sym p), key-ep d' Out Out x e (sym p)) c.place;
  iso = rw (key-ep d Out Out x e (sym p), key-ep d' Out Out x e (sym p)) c.iso;
}

module _ (c : Channel) (e : ℕ) (p : key Out e ≡ key Out c.number) where
  -- ---- what it does, in one run

  module _ (s : St) (l : Lawful c.iso quiet s) where
    own-record : (r : EpState) → Stays (ep_on s.0 Out e) r → Beside c.number s.0 (with_on s.0 Out e r)
    own-record r k = own-changed (changed-key p (changed-on l.rest.sized Out e r k.place
        (ap (λ (q : EpCore). q.iso) k.plain)))
        (rw (
          key-ep s.0 Out Out c.number e (sym p),
          key-ep (with_on s.0 Out e r) Out Out c.number e (sym p) ∙ ep_on-same s.0 Out e r l.rest.sized,
        ) k)

    own-cond : (u : Bool) (r : EpState) → Stays (ep_on s.0 Out e) r
        → Beside c.number s.0 (cond u (with_on s.0 Out e r) s.0)
    own-cond true r k = own-record r k
    own-cond false r k = but-refl c.number s.0

    unreadies : Touched c quiet s (put_on (ep-cell Out e) (with_ready 0 (plain_of (ep_on s.0 Out e))) s)
    unfolding with_on
    unreadies = record {
      left = l;
      right = lawful-put c (ep-cell Out e) (with_ready 0 (plain_of (ep_on s.0 Out e))) l refl;
      but = own-record _ (record { place = record { base = refl; stride = refl; slots = refl }; plain = refl });
      bytes = only-refl _ _ s.1;
    }

    takes : Touched c quiet s (act_on (take_oldest e) s)
    unfolding take_on with_on closed_of passed_of
    takes = record {
      left = l;
      right = lawful-act c (take_oldest e) refl l;
      but = own-cond (has_waiting (ep_on s.0 Out e)) _
          (record { place = record { base = refl; stride = refl; slots = refl }; plain = refl });
      bytes = only-refl _ _ s.1;
    }

    requests : (v : Request) → Touched c quiet s (put_on (request-cell Out e) v s)
    unfolding with_request_on ep_on len_on stamp_on
    requests v = record {
      left = l;
      right = lawful-put c (request-cell Out e) v l refl;
      but = but-parts (but-refl c.number s.0) refl refl refl refl
          (λ dir f n. sym (request_on-other s.0 Out e v dir f (λ q. n (q ∙ p)))) (λ f n. refl);
      bytes = only-refl _ _ s.1;
    }

  -- ---- its script

  module _ (s : St) where
    abbrev T : St → Type 0
    T t = Touched c quiet s t

    b-ready : Brief T (modify_ep Out e (with_ready 0))
    b-ready = record { on = λ t k. fin tt (touched-trans k (unreadies t k.right)) }

    b-ends : (a : Answer) → Brief T (ends_request Out e a)
    b-ends a = b-bind (b-put (request-cell Out e) _ (λ t k. touched-trans k (requests t k.right _))) (λ _. b-ret a)

    b-take-iso : (n : ℕ) → Brief T (take_iso e n)
    b-take-iso n = b-bind (b-get globals-cell) (λ g. b-test _
        (b-bind (b-is (waiting Out e)) (λ b. b-test b
        (b-bind (b-fetch (oldest e)) (λ w. b-bind (b-act (take_oldest e) (λ t k. touched-trans k (takes t k.right)))
        (λ _. b-ends _)))
        (b-ret _)))
        (b-ends _))

    b-take-ready : (n : ℕ) (v : EpCore) → Brief T (take_ready e n v)
    b-take-ready n v = b-test _
        (b-bind b-ready (λ _. b-test _ (b-ends _) (b-bind (b-fetch (received e v.len)) (λ w. b-ends _))))
        (b-bind (b-get globals-cell) (λ g. b-test _ (b-ret _) (b-ends _)))

    b-poll : (n : ℕ) → Brief T (poll_read e n)
    b-poll n = b-bind (b-get globals-cell) (λ g. b-test _
        (b-bind (b-get allocator-cell) (λ a. b-test _
        (b-bind (b-get (request-cell Out e)) (λ r. b-test _ (b-ret _) (b-test _
        (b-bind (b-get (ep-cell Out e)) (λ v. b-test _ (b-take-iso n) (b-take-ready n v)))
        (b-bind b-ready (λ _. b-ends _)))))
        (b-ret _)))
        (b-ret _))

  pub own-polls : (n : ℕ) (s : St) → Lawful c.iso quiet s
      → Finished (Touched c quiet s) (run {i = false} concrete (poll_read e n) s)
  own-polls n s l = (b-poll s n).on s (touched-refl l)
