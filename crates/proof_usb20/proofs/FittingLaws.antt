-- Log and state fit after each choice of the function and each poll: of the words, the pipe and the records alone
use Rattle.std.specs.Prelude.{Bool, true, false, not, ◌&&◌, ◌||◌, ◌⊎◌, ◌≡◌, refl, ℕ, eqb}
use Rattle.std.proofs.Common.{inl, inr, ap, ◌∙◌, arith, eqb-true}
use Rattle.regs.specs.ControlWord as word
use Rattle.regs.specs.ControlWord.{response, toggle, with_response, with_toggle, word_of, ack, nak, stall, status}
use Rattle.state.specs.declared.Control.{Control}
use Rattle.script.specs.Statics.{is_on}
use Rattle.script.specs.Control.{DATA-OUT, ACCEPT, request_of, empty_control, data_in_of}
use Rattle.script.specs.TogglesLaws.{number}
use Rattle.script.proofs.ToggledLaws.{ack-keeps, ack-acks}
use Rattle.script.proofs.ControlLaws.{toggle-with}
use Rattle.proof_usb20.specs.Pipe.{Stage, data-stage, status-stage, acks, Half, readied, halted, data_ready}
use Rattle.proof_usb20.specs.Pipe.{Setting, Choice, takes, gives, confirms, rejects, chosen, orderly}
use Rattle.proof_usb20.specs.Log.{Ep0Word, written_as, word_read_as, anew, Log, with_rx, with_tx, with_len, with_got, choose}
use Rattle.proof_usb20.specs.Ep0.{Rec, View, Fits, Unstaged, unstaged, Due, first_wait, Confirms, Rel}
use Rattle.proof_usb20.specs.ViewsLaws.{out_is_set, set_in, set_control}
use Rattle.proof_usb20.specs.ExemptLaws.{differ}

-- ---- words

pub on : is_on 1 ≡ true
unfolding is_on
on = refl

pub off : is_on 0 ≡ false
unfolding is_on
off = refl

pub acked-ack : response (word_of word.ACK word.DATA1 false) ≡ word.ACK
unfolding response word_of
acked-ack = refl

pub acked-one : toggle (word_of word.ACK word.DATA1 false) ≡ 1
unfolding toggle word_of
acked-one = refl

pub stall-stalls : (w : ℕ) → response (stall w) ≡ word.STALL
unfolding stall with_response response
stall-stalls w = omega arith

pub stall-keeps : (w : ℕ) → toggle (stall w) ≡ toggle w
unfolding stall with_response response toggle
stall-keeps w = omega arith

pub nak-naks : (w : ℕ) → response (nak w) ≡ word.NAK
unfolding nak with_response response
nak-naks w = omega arith

pub status-acks : (w : ℕ) → response (status w) ≡ word.ACK
unfolding status
status-acks w = ack-acks (with_toggle w word.DATA1)

pub status-one : (w : ℕ) → toggle (status w) ≡ 1
unfolding status
status-one w = ack-keeps (with_toggle w word.DATA1) ∙ toggle-with w 1 (omega arith)

-- ---- tests

pub both : (a b : Bool) → a && b ≡ true → (a ≡ true) × (b ≡ true)
both true true h = (refl, refl)
both true false h = differ h
both false b h = differ h

pub and : {a b : Bool} → a ≡ true → b ≡ true → a && b ≡ true
and h k = rw (h, k) refl

pub negated : (a : Bool) → not a ≡ true → a ≡ false
negated false h = refl
negated true h = differ h

-- a word that is not written anew
kept_word : {c : Ep0Word} {h : Half} {r : Rec} → Fits c h r → Fits (anew false c) h r
kept_word f = record { shows = f.shows; toggles = f.toggles; armed = f.armed }

-- ---- choices

-- exempt, or a state that fits
abbrev pub Fit : Log → View → Type 0
Fit w x = (w.exempt ≡ true) ⊎ Rel w.rx w.tx w.len w.got w.pipe w.awaits w.untaken x

-- exempt, or a choice in order
chooses : (c : Choice) (w : Log) (x y : View) (u : Log) → (w.exempt ≡ true) ⊎ Rel u.rx u.tx u.len u.got
    u.pipe u.awaits u.untaken x
    → (orderly c w.pipe ≡ true → Rel u.rx u.tx u.len u.got u.pipe u.awaits u.untaken x
    → Rel (choose c w).rx (choose c w).tx (choose c w).len (choose c w).got (chosen c w.pipe)
    (choose c w).awaits w.untaken y)
    → Fit (choose c w) y
chooses c w x y u (inl e) f = inl (rw e refl)
chooses c w x y u (inr r) f = by w.exempt (orderly c w.pipe) refl
  where
    by : (e o : Bool) → orderly c w.pipe ≡ o
        → (e || not o ≡ true) ⊎ Rel (choose c w).rx (choose c w).tx (choose c w).len (choose c w).got (chosen c
        w.pipe) (choose c w).awaits w.untaken y
    by true o h = inl refl
    by false false h = inl refl
    by false true h = inr (f h r)

-- a half that is made ready: by a word that was written outright, or by one that was made from what was read
first-ready : (s : Stage) (c : Ep0Word) (h : Half) (r : Rec) → response c.last ≡ word.ACK → toggle c.last ≡ 1
    → is_on r.armed ≡ data_ready (acks s) → Fits (anew true c) (readied s true h) r
first-ready s c h r a t m = record { shows = (a, λ _. t); toggles = λ _ _. t; armed = m }

next-ready : (s : Stage) (v : ℕ) (c : Ep0Word) (h : Half) (r r' : Rec) → Fits c h r → h.begun ≡ true
    → is_on r'.armed ≡ data_ready (acks s)
    → Fits (anew false (written_as (ack v) (word_read_as v c))) (readied s false h) r'
next-ready s v c h r r' f o m = record { shows = (ack-acks v, bit); toggles = λ k _. bit k; armed = m }
  where
    bit : (c.read_back && eqb v c.last) && c.in_step ≡ true → toggle (ack v) ≡ number h.bit
    bit k = let p = both (c.read_back && eqb v c.last) c.in_step k in
        let q = both c.read_back (eqb v c.last) p.0 in
        ack-keeps v ∙ (ap toggle (eqb-true v c.last q.1) ∙ f.toggles (and q.0 p.1) o)

-- a packet that is ready is due
readied-due : (s : Stage) (first : Bool) (h : Half) (r : Rec) → is_on r.ready ≡ false → Due (readied s first h) r
readied-due s first h r e = record { ready = e; pends = refl; begun = refl }

-- data_out: its first packet
pub fits-takes-first : (w : Log) (x : View) (n : ℕ) (c : Ep0Word) → response c.last ≡ word.ACK
    → toggle c.last ≡ 1 → Fit w x
    → Fit (choose (takes true) (with_got n (with_rx c w)))
    (out_is_set (record { ready = 0; armed = 1; len = n }) (set_control (request_of DATA-OUT n) x))
fits-takes-first w x n c a t f = chooses (takes true) (with_got n (with_rx c w)) x _ w f (λ o r. record {
  stage = r.stage;
  out = first-ready data-stage c w.pipe.out _ a t on;
  inn = r.inn;
  waits = (refl, readied-due data-stage true w.pipe.out _ off);
  size = r.size;
  received = λ _. refl;
  setup = r.setup;
})

pub fits-takes-next : (w : Log) (x : View) (n v : ℕ) → Fit w x
    → Fit (choose (takes false) (with_got n (with_rx (written_as (ack v) (word_read_as v w.rx)) w)))
    (out_is_set (record { ready = 0; armed = 1; len = n }) (set_control (request_of DATA-OUT n) x))
fits-takes-next w x n v f = chooses (takes false) (with_got n (with_rx (written_as (ack v) (word_read_as v
    w.rx)) w)) x _ w f (λ o r. record {
      stage = r.stage;
      out = next-ready data-stage v w.rx w.pipe.out x.out _ r.out o on;
      inn = r.inn;
      waits = (refl, readied-due data-stage false w.pipe.out _ off);
      size = r.size;
      received = λ _. refl;
      setup = r.setup;
    })

-- the last packet of a data_in: the status stage OUT is made ready with it
module _ (w : Log) (x : View) (n : ℕ) (u : Ep0Word) (ua : response u.last ≡ word.ACK) (ut : toggle
    u.last ≡ 1) where
  abbrev closed : View
  closed = set_in (record { ready = 0; armed = 1; len = x.inn.len })
      (out_is_set (record { ready = 0; armed = x.out.armed; len = 0 }) (set_control (data_in_of n 1 1) x))

  closing : data_ready w.pipe.out.answers ≡ false → Fits w.rx w.pipe.out x.out
      → is_on x.out.armed ≡ false
  closing d f = f.armed ∙ d

  pub fits-gives-last-first : (c : Ep0Word) → response c.last ≡ word.ACK → toggle c.last ≡ 1 → Fit w x
      → Fit (choose (gives n true true) (with_got 0 (with_tx c (with_len n (with_rx u w))))) closed
  fits-gives-last-first c a t f = chooses (gives n true true) (with_got 0 (with_tx c (with_len n (with_rx u w)))) x _ w f
      (λ o r.
      let d = negated (data_ready w.pipe.out.answers) o in record {
        stage = r.stage;
        out = first-ready status-stage u w.pipe.out _ ua ut (closing d r.out);
        inn = first-ready data-stage c w.pipe.inn _ a t on;
        waits = (
          refl,
          on,
          first_wait refl (readied-due data-stage true w.pipe.inn _ off) (λ _. readied-due status-stage true
              w.pipe.out _ off),
        );
        size = λ _. refl;
        received = λ _. refl;
        setup = r.setup;
      })

  pub fits-gives-last-next : (v : ℕ) → Fit w x
      → Fit (choose (gives n false true) (with_got 0 (with_tx (written_as (ack v) (word_read_as v w.tx)) (with_len n
      (with_rx u w))))) closed
  fits-gives-last-next v f =
      chooses (gives n false true) (with_got 0 (with_tx (written_as (ack v) (word_read_as v w.tx)) (with_len n
      (with_rx u w)))) x _ w f (λ o r.
      let z = both w.pipe.inn.begun (not (data_ready w.pipe.out.answers)) o in
      let d = negated (data_ready w.pipe.out.answers) z.1 in record {
        stage = r.stage;
        out = first-ready status-stage u w.pipe.out _ ua ut (closing d r.out);
        inn = next-ready data-stage v w.tx w.pipe.inn x.inn _ r.inn z.0 on;
        waits = (
          refl,
          on,
          first_wait refl (readied-due data-stage false w.pipe.inn _ off) (λ _. readied-due status-stage true
              w.pipe.out _ off),
        );
        size = λ _. refl;
        received = λ _. refl;
        setup = r.setup;
      })

-- another one
pub fits-gives-first : (w : Log) (x : View) (n : ℕ) (c : Ep0Word) → response c.last ≡ word.ACK
    → toggle c.last ≡ 1 → Fit w x
    → Fit (choose (gives n true false) (with_tx c (with_len n w)))
    (set_in (record { ready = 0; armed = 1; len = x.inn.len }) (set_control (data_in_of n 0 1) x))
fits-gives-first w x n c a t f = chooses (gives n true false) (with_tx c (with_len n w)) x _ w f (λ o r. record {
  stage = r.stage;
  out = kept_word r.out;
  inn = first-ready data-stage c w.pipe.inn _ a t on;
  waits = (refl, off, first_wait refl (readied-due data-stage true w.pipe.inn _ off) (λ l. differ l));
  size = λ _. refl;
  received = r.received;
  setup = r.setup;
})

pub fits-gives-next : (w : Log) (x : View) (n v : ℕ) → Fit w x
    → Fit (choose (gives n false false) (with_tx (written_as (ack v) (word_read_as v w.tx)) (with_len n w)))
    (set_in (record { ready = 0; armed = 1; len = x.inn.len }) (set_control (data_in_of n 0 1) x))
fits-gives-next w x n v f = chooses (gives n false false) (with_tx (written_as (ack v) (word_read_as v w.tx))
    (with_len n w)) x _ w f (λ o r.
    let z = both w.pipe.inn.begun true o in record {
      stage = r.stage;
      out = kept_word r.out;
      inn = next-ready data-stage v w.tx w.pipe.inn x.inn _ r.inn z.0 on;
      waits = (refl, off, first_wait refl (readied-due data-stage false w.pipe.inn _ off) (λ l. differ l));
      size = λ _. refl;
      received = r.received;
      setup = r.setup;
    })

pub fits-confirms : (k : Setting) (w : Log) (x : View) (c : Ep0Word) (q : Control) → q.sort ≡ ACCEPT → Confirms k q
    → response c.last ≡ word.ACK → toggle c.last ≡ 1 → Fit w x
    → Fit (choose (confirms k) (with_tx c (with_len 0 w)))
    (set_in (record { ready = 0; armed = x.inn.armed; len = x.inn.len }) (set_control q x))
fits-confirms k w x c q s m a t f = chooses (confirms k) (with_tx c (with_len 0 w)) x _ w f (λ o r. record {
  stage = r.stage;
  out = r.out;
  inn = first-ready status-stage c w.pipe.inn _ a t (r.inn.armed ∙ negated (data_ready w.pipe.inn.answers) o);
  waits = (s, readied-due status-stage true w.pipe.inn _ off, m);
  size = λ _. refl;
  received = r.received;
  setup = r.setup;
})

halts : (v : ℕ) (c : Ep0Word) (h : Half) (r : Rec) → Fits c h r
    → Fits (written_as (stall v) (word_read_as v c)) (halted h) (record { ready = r.ready; armed = 0; len = r.len })
halts v c h r f = record { shows = stall-stalls v; toggles = bit; armed = off }
  where
    bit : (c.read_back && eqb v c.last) && c.in_step ≡ true → h.begun ≡ true → toggle (stall v) ≡ number h.bit
    bit k b = let p = both (c.read_back && eqb v c.last) c.in_step k in
        let q = both c.read_back (eqb v c.last) p.0 in
        stall-keeps v ∙ (ap toggle (eqb-true v c.last q.1) ∙ f.toggles (and q.0 p.1) b)

pub none-staged : Unstaged empty_control
none-staged = record {
  not_out = λ z. absurd (omega (arith, z));
  not_in = λ z. absurd (omega (arith, z));
  not_status = λ z. absurd (omega (arith, z));
}

pub fits-rejects : (w : Log) (x : View) (u v : ℕ) → Fit w x
    → Fit (choose rejects (with_rx (written_as (stall u) (word_read_as u w.rx)) (with_tx (written_as (stall v) (word_read_as v
    w.tx)) w)))
    (set_in (record { ready = x.inn.ready; armed = 0; len = x.inn.len })
    (out_is_set (record { ready = x.out.ready; armed = 0; len = x.out.len }) (set_control empty_control x)))
fits-rejects w x u v f =
    chooses rejects (with_rx (written_as (stall u) (word_read_as u w.rx)) (with_tx (written_as (stall v) (word_read_as v
    w.tx)) w)) x _ w f (λ o r. record {
      stage = r.stage;
      out = halts u w.rx w.pipe.out x.out r.out;
      inn = halts v w.tx w.pipe.inn x.inn r.inn;
      waits = unstaged none-staged;
      size = λ h. differ h;
      received = r.received;
      setup = r.setup;
    })
