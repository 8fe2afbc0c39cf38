-- Log and state fit after each event of the bus: of the words, the pipe and the records alone
use Rattle.std.specs.Prelude.{Bool, true, false, not, cond, ◌&&◌, ◌||◌, List, ◌⊎◌, ◌≡◌, refl, ℕ, eqb}
use Rattle.std.proofs.Common.{inl, inr, ap, subst, sym, ◌∙◌, arith, eqb-true}
use Rattle.regs.specs.declared.Dir.TheVariants.{Out, In}
use Rattle.regs.specs.ControlWord as word
use Rattle.regs.specs.ControlWord.{response, toggle, with_toggle, nak, flip, nakflip}
use Rattle.state.specs.declared.Control.{Control}
use Rattle.script.specs.Statics.{is_on}
use Rattle.script.specs.TogglesLaws.{number}
use Rattle.script.specs.Usb20Toggles.{other}
use Rattle.script.proofs.ControlLaws.{nak-keeps, flips}
use Rattle.proof_usb20.specs.Pipe.{data-stage, status-stage, Answers, naks, stalls, acks, Half, gone, renewed}
use Rattle.proof_usb20.specs.Pipe.{is_ready, is_stall, data_ready, Pipe, with, setup, token, after, Awaited, nothing}
use Rattle.proof_usb20.specs.Pipe.{taken, given, confirmed}
use Rattle.proof_usb20.specs.Log.{Ep0Word, written_as, word_read_as, shown_as, anew, Request, empty_request, for-setup}
use Rattle.proof_usb20.specs.Log.{for-data-in, SetupPacket, waits, Octets}
use Rattle.proof_usb20.specs.Log.{for-status, for_data_out, is_stage, is_nothing, Shows}
use Rattle.proof_usb20.specs.Ep0.{Rec, View, Fits, Unstaged, Rests, unstaged, set_up, Due, Gives, first_wait}
use Rattle.proof_usb20.specs.Ep0.{second_wait, Waits, Rel, Says}
use Rattle.proof_usb20.specs.ViewsLaws.{out_is_set, set_in, set_ready}
use Rattle.proof_usb20.specs.ExemptLaws.{differ}
use Rattle.proof_usb20.proofs.FittingLaws.{on, off, both, and, nak-naks}

-- the record of a packet that went through, or was shown
abbrev pub completed : ℕ → Rec
completed n = record { ready = 1; armed = 0; len = n }

with-response : (w t : ℕ) → response (with_toggle w t) ≡ response w
unfolding with_toggle toggle response
with-response w t = omega arith

flip-response : (w : ℕ) → response (flip w) ≡ response w
unfolding flip
flip-response w = with-response w _

-- ---- words

-- put on NAK, then flipped: two readings
abbrev pub nakked : ℕ → Ep0Word → Ep0Word
nakked v c = written_as (nak v) (word_read_as v c)

abbrev pub flipped : ℕ → Ep0Word → Ep0Word
flipped v c = written_as (flip v) (word_read_as v c)

-- both at once
abbrev pub nakflipped : ℕ → Ep0Word → Ep0Word
nakflipped v c = written_as (nakflip v) (word_read_as v c)

-- read as it was last written
as_written : (a : Bool) (v n : ℕ) → a && eqb v n ≡ true → (a ≡ true) × (v ≡ n)
as_written a v n h = let p = both a (eqb v n) h in (p.0, eqb-true v n p.1)

flipped-naks : (u v : ℕ) (c : Ep0Word) → (c.read_back && eqb u c.last) && eqb v (nak u) ≡ true
    → response (flip v) ≡ word.NAK
flipped-naks u v c k = let p = as_written (c.read_back && eqb u c.last) v (nak u) k in
    flip-response v ∙ (ap response p.1 ∙ nak-naks u)

-- a half whose packet went through: NAK, the bit changed
went : (u v : ℕ) (c : Ep0Word) (h : Half) (r r' : Rec) → Fits c h r → is_on r'.armed ≡ false
    → Fits (flipped v (shown_as true (nakked u c))) (gone h) r'
went u v c h r r' f m = record { shows = flipped-naks u v c; toggles = bit; armed = m }
  where
    bit : ((c.read_back && eqb u c.last) && eqb v (nak u)) && (c.in_step && true) ≡ true → h.begun ≡ true
        → toggle (flip v) ≡ number (other h.bit)
    bit k b =
        let p = both ((c.read_back && eqb u c.last) && eqb v (nak u)) (c.in_step && true) k in
        let second = as_written (c.read_back && eqb u c.last) v (nak u) p.0 in
        let first = as_written c.read_back u c.last second.0 in
        let was = f.toggles (and first.0 (both c.in_step true p.1).0) b in
        ap (λ n. toggle (flip n)) second.1 ∙ flips h.bit (nak u) (nak-keeps u ∙ (ap toggle first.1 ∙ was))

went-hidden : (v : ℕ) (c : Ep0Word) (h : Half) (r r' : Rec) → Fits c h r → is_on r'.armed ≡ false
    → Fits (nakflipped v c) (gone h) r'
unfolding nakflip
went-hidden v c h r r' f m = record { shows = λ _. flip-response (nak v) ∙ nak-naks v; toggles = bit; armed = m }
  where
    bit : (c.read_back && eqb v c.last) && c.in_step ≡ true → h.begun ≡ true
        → toggle (flip (nak v)) ≡ number (other h.bit)
    bit k b =
        let p = both (c.read_back && eqb v c.last) c.in_step k in
        let first = as_written c.read_back v c.last p.0 in
        flips h.bit (nak v) (nak-keeps v ∙ (ap toggle first.1 ∙ f.toggles (and first.0 p.1) b))

-- a packet was shown that was not ready: NAK still, its PID unknown
strayed : (u v : ℕ) (c : Ep0Word) (h : Half) (r r' : Rec) → Fits c h r → h.answers ≡ naks → is_on r'.armed ≡ false
    → Fits (flipped v (shown_as false (nakked u c))) h r'
strayed u v c h r r' f n m = record {
  shows = subst (Shows (flipped v (shown_as false (nakked u c))) h) (sym n) (flipped-naks u v c);
  toggles = λ k _. none (((c.read_back && eqb u c.last) && eqb v (nak u))) c.in_step k;
  armed = m ∙ sym (ap data_ready n);
}
  where
    none : {X : Type 0} (a b : Bool) → a && (b && false) ≡ true → X
    none true true h = differ h
    none true false h = differ h
    none false b h = differ h

-- ---- a direction, its packet shown

-- it was due, and so it is through
due-gone : (h : Half) (r r' : Rec) → Due h r → is_on r'.ready ≡ true → Due (gone h) r'
due-gone h r r' d o = record { ready = o; pends = refl; begun = d.begun }

due-stray : (h : Half) (r r' : Rec) → h.answers ≡ naks → Due h r → is_on r'.ready ≡ true → Due h r'
due-stray h r r' n d o = record { ready = o ∙ sym through; pends = d.pends; begun = d.begun }
  where
    through : h.through ≡ true
    through = subst (λ (a : Answers). is_ready a || h.through ≡ true) n d.pends

-- no stage's request is there
pub unstaged-by : (q : Request) (c : Control) → is_stage q ≡ false → Says q c → Unstaged c
unstaged-by empty_request c h s = record {
  not_out = λ z. absurd (omega (arith, z, s));
  not_in = λ z. absurd (omega (arith, z, s));
  not_status = λ z. absurd (omega (arith, z, s));
}
unstaged-by for-setup c h s = record {
  not_out = λ z. absurd (omega (arith, z, s));
  not_in = λ z. absurd (omega (arith, z, s));
  not_status = λ z. absurd (omega (arith, z, s));
}
unstaged-by for-data-in c h s = differ (sym h)
unstaged-by for-status c h s = differ (sym h)
unstaged-by (for_data_out m) c h s = differ (sym h)

-- ---- a packet OUT

rests-out : (p : Pipe) (x : View) (n : ℕ) → is_ready p.out.answers ≡ true → Rests p x
    → Rests (with Out (gone p.out) p) (out_is_set (completed n) x)
rests-out p x n h (unstaged a) = unstaged a
rests-out p x n h (set_up e f g i j) = differ (sym i ∙ h)

gives-out : (last : Bool) (p : Pipe) (x : View) (n : ℕ) → Gives last p x
    → Gives last (with Out (gone p.out) p) (out_is_set (completed n) x)
gives-out last p x n (first_wait k i o) = first_wait k i (λ l. due-gone p.out x.out (completed n) (o l) on)
gives-out last p x n (second_wait k l i o) = second_wait k l i (due-gone p.out x.out (completed n) o on)

waits-out : (a : Awaited) (p : Pipe) (x : View) (n : ℕ) → is_ready p.out.answers ≡ true → Waits a p x
    → Waits a (with Out (gone p.out) p) (out_is_set (completed n) x)
waits-out nothing p x n h w = rests-out p x n h w
waits-out taken p x n h w = (w.0, due-gone p.out x.out (completed n) w.1 on)
waits-out (given last) p x n h w = (w.0, w.1, gives-out last p x n w.2)
waits-out (confirmed s) p x n h w = w

stray-gives-out : (last : Bool) (p : Pipe) (x : View) (n : ℕ) → p.out.answers ≡ naks → Gives last p x
    → Gives last p (out_is_set (completed n) x)
stray-gives-out last p x n h (first_wait k i o) = first_wait k i (λ l. due-stray p.out x.out (completed n) h
    (o l) on)
stray-gives-out last p x n h (second_wait k l i o) = second_wait k l i (due-stray p.out x.out
    (completed n) h o on)

stray-waits-out : (a : Awaited) (q : Request) (p : Pipe) (x : View) (n : ℕ) → p.out.answers ≡ naks
    → is_stage q && is_nothing a ≡ false → Says q x.control → Waits a p x → Waits a p (out_is_set (completed n) x)
stray-waits-out nothing q p x n h e s w = unstaged (unstaged-by q x.control (last (is_stage q) e) s)
  where
    last : (b : Bool) → b && true ≡ false → b ≡ false
    last true z = z
    last false z = refl
stray-waits-out taken q p x n h e s w = (w.0, due-stray p.out x.out (completed n) h w.1 on)
stray-waits-out (given last) q p x n h e s w = (w.0, w.1, stray-gives-out last p x n h w.2)
stray-waits-out (confirmed c) q p x n h e s w = w

or_true : (b : Bool) → b || true ≡ true
or_true true = refl
or_true false = refl

-- `exempt`, or not; a request of this sort
pub packet-out : {rx tx : Ep0Word} {l g : ℕ} {p : Pipe} {a : Awaited} {w : SetupPacket} {x : View} (exempt : Bool)
    (q : Request) (u v n : ℕ)
    → Says q x.control → (exempt ≡ true) ⊎ Rel rx tx l g p a w x
    → (exempt || (not (is_ready p.out.answers) && (is_stall p.out.answers || (is_stage q && is_nothing a))) ≡ true)
    ⊎ Rel (flipped v (shown_as (is_ready p.out.answers) (nakked u rx))) tx l n
    (with Out (cond (is_ready p.out.answers) (gone p.out) p.out) p) a w (out_is_set (completed n) x)
packet-out exempt q u v n s (inl e) = inl (rw e refl)
packet-out {rx = rx} {tx = tx} {l = l} {g = g} {p = p} {a = a} {w = w} {x = x} exempt q u v n s (inr r) =
    by p.out.answers refl (is_stage q && is_nothing a) refl
  where
    by : (b : Answers) → p.out.answers ≡ b → (stale : Bool) → is_stage q && is_nothing a ≡ stale
        → (exempt || (not (is_ready b) && (is_stall b || stale)) ≡ true)
        ⊎ Rel (flipped v (shown_as (is_ready b) (nakked u rx))) tx l n
        (with Out (cond (is_ready b) (gone p.out) p.out) p) a w (out_is_set (completed n) x)
    by naks h true e = inl (or_true exempt)
    by naks h false e = inr (record {
      stage = r.stage;
      out = strayed u v rx p.out x.out (completed n) r.out h off;
      inn = r.inn;
      waits = stray-waits-out a q p x n h e s r.waits;
      size = r.size;
      received = λ _. refl;
      setup = r.setup;
    })
    by stalls h stale e = inl (or_true exempt)
    by (acks k) h stale e = inr (record {
      stage = r.stage;
      out = went u v rx p.out x.out (completed n) r.out off;
      inn = r.inn;
      waits = waits-out a p x n (ap is_ready h) r.waits;
      size = r.size;
      received = λ _. refl;
      setup = r.setup;
    })

-- ---- a packet IN

rests-in : (p : Pipe) (x : View) (n : ℕ) → is_ready p.inn.answers ≡ true → Rests p x
    → Rests (with In (gone p.inn) p) (set_in (completed n) x)
rests-in p x n h (unstaged a) = unstaged a
rests-in p x n h (set_up e f g i j) = differ (sym j ∙ h)

gives-in : (last : Bool) (p : Pipe) (x : View) (n : ℕ) → Gives last p x
    → Gives last (with In (gone p.inn) p) (set_in (completed n) x)
gives-in last p x n (first_wait k i o) = first_wait k (due-gone p.inn x.inn (completed n) i on) o
gives-in last p x n (second_wait k l i o) = second_wait k l refl o

waits_in : (a : Awaited) (p : Pipe) (x : View) (n : ℕ) → is_ready p.inn.answers ≡ true → Waits a p x
    → Waits a (with In (gone p.inn) p) (set_in (completed n) x)
waits_in nothing p x n h w = rests-in p x n h w
waits_in taken p x n h w = w
waits_in (given last) p x n h w = (w.0, w.1, gives-in last p x n w.2)
waits_in (confirmed s) p x n h w = (w.0, due-gone p.inn x.inn (completed n) w.1 on, w.2)

stray-gives-in : (last : Bool) (p : Pipe) (x : View) (n : ℕ) → p.inn.answers ≡ naks → Gives last p x
    → Gives last p (set_in (completed n) x)
stray-gives-in last p x n h (first_wait k i o) = first_wait k (due-stray p.inn x.inn (completed n) h i on) o
stray-gives-in last p x n h (second_wait k l i o) = second_wait k l i o

stray-waits-in : (a : Awaited) (q : Request) (p : Pipe) (x : View) (n : ℕ) → p.inn.answers ≡ naks
    → is_stage q && is_nothing a ≡ false → Says q x.control → Waits a p x → Waits a p (set_in (completed n) x)
stray-waits-in nothing q p x n h e s w = unstaged (unstaged-by q x.control (last (is_stage q) e) s)
  where
    last : (b : Bool) → b && true ≡ false → b ≡ false
    last true z = z
    last false z = refl
stray-waits-in taken q p x n h e s w = w
stray-waits-in (given last) q p x n h e s w = (w.0, w.1, stray-gives-in last p x n h w.2)
stray-waits-in (confirmed c) q p x n h e s w = (w.0, due-stray p.inn x.inn (completed n) h w.1 on, w.2)

pub packet-in : {rx tx : Ep0Word} {l g : ℕ} {p : Pipe} {a : Awaited} {w : SetupPacket} {x : View} (exempt : Bool)
    (q : Request) (u v n : ℕ)
    → Says q x.control → (exempt ≡ true) ⊎ Rel rx tx l g p a w x
    → (exempt || (not (is_ready p.inn.answers) && (is_stall p.inn.answers || (is_stage q && is_nothing a))) ≡ true)
    ⊎ Rel rx (flipped v (shown_as (is_ready p.inn.answers) (nakked u tx))) l g
    (with In (cond (is_ready p.inn.answers) (gone p.inn) p.inn) p) a w (set_in (completed n) x)
packet-in exempt q u v n s (inl e) = inl (rw e refl)
packet-in {rx = rx} {tx = tx} {l = l} {g = g} {p = p} {a = a} {w = w} {x = x} exempt q u v n s (inr r) =
    by p.inn.answers refl (is_stage q && is_nothing a) refl
  where
    by : (b : Answers) → p.inn.answers ≡ b → (stale : Bool) → is_stage q && is_nothing a ≡ stale
        → (exempt || (not (is_ready b) && (is_stall b || stale)) ≡ true)
        ⊎ Rel rx (flipped v (shown_as (is_ready b) (nakked u tx))) l g
        (with In (cond (is_ready b) (gone p.inn) p.inn) p) a w (set_in (completed n) x)
    by naks h true e = inl (or_true exempt)
    by naks h false e = inr (record {
      stage = r.stage;
      out = r.out;
      inn = strayed u v tx p.inn x.inn (completed n) r.inn h off;
      waits = stray-waits-in a q p x n h e s r.waits;
      size = λ z. differ (sym (ap is_ready h) ∙ z);
      received = r.received;
      setup = r.setup;
    })
    by stalls h stale e = inl (or_true exempt)
    by (acks k) h stale e = inr (record {
      stage = r.stage;
      out = r.out;
      inn = went u v tx p.inn x.inn (completed n) r.inn off;
      waits = waits_in a p x n (ap is_ready h) r.waits;
      size = λ z. differ z;
      received = r.received;
      setup = r.setup;
    })

-- ---- the token OUT: the last packet IN went through, if it was ready still

data-is-ready : (a : Answers) → data_ready a ≡ true → is_ready a ≡ true
data-is-ready naks h = h
data-is-ready stalls h = h
data-is-ready (acks data-stage) h = refl
data-is-ready (acks status-stage) h = refl

pub token-out : {rx tx : Ep0Word} {l g : ℕ} {p : Pipe} {a : Awaited} {u : SetupPacket} {x : View} (v : ℕ) (m : Bool)
    → is_on x.inn.armed ≡ m → Rel rx tx l g p a u x
    → Rel rx (cond m (nakflipped v tx) tx) l g (after (token Out) p) a u (cond m (set_in (completed x.inn.len) x) x)
token-out {rx = rx} {tx = tx} {l = l} {g = g} {p = p} {a = a} {u = u} {x = x} v m e r = by m (data_ready
    p.inn.answers) refl e
  where
    by : (m d : Bool) → data_ready p.inn.answers ≡ d → is_on x.inn.armed ≡ m
        → Rel rx (cond m (nakflipped v tx) tx) l g (with In (cond d (gone p.inn) p.inn) p) a u (cond m (set_in
        (completed x.inn.len) x) x)
    by true true h e = record {
      stage = r.stage;
      out = r.out;
      inn = went-hidden v tx p.inn x.inn (completed x.inn.len) r.inn off;
      waits = waits_in a p x x.inn.len (data-is-ready p.inn.answers h) r.waits;
      size = λ z. differ z;
      received = r.received;
      setup = r.setup;
    }
    by false false h e = r
    by true false h e = differ (sym h ∙ (sym r.inn.armed ∙ e))
    by false true h e = differ (sym e ∙ (r.inn.armed ∙ h))

-- ---- the token IN: the last packet OUT went through, if it was ready still; its length is its begin's

pub token_in : {rx tx : Ep0Word} {l g : ℕ} {p : Pipe} {a : Awaited} {u : SetupPacket} {x : View} (v : ℕ) (m : Bool)
    → is_on x.out.armed ≡ m → Rel rx tx l g p a u x
    → Rel (cond m (nakflipped v rx) rx) tx l g (after (token In) p) a u (cond m (out_is_set (completed x.out.len) x) x)
token_in {rx = rx} {tx = tx} {l = l} {g = g} {p = p} {a = a} {u = u} {x = x} v m e r = by m (data_ready
    p.out.answers) refl e
  where
    by : (m d : Bool) → data_ready p.out.answers ≡ d → is_on x.out.armed ≡ m
        → Rel (cond m (nakflipped v rx) rx) tx l g (with Out (cond d (gone p.out) p.out) p) a u
        (cond m (out_is_set (completed x.out.len) x) x)
    by true true h e = record {
      stage = r.stage;
      out = went-hidden v rx p.out x.out (completed x.out.len) r.out off;
      inn = r.inn;
      waits = waits-out a p x x.out.len (data-is-ready p.out.answers h) r.waits;
      size = r.size;
      received = r.received;
      setup = r.setup;
    }
    by false false h e = r
    by true false h e = differ (sym h ∙ (sym r.out.armed ∙ e))
    by false true h e = differ (sym e ∙ (r.out.armed ∙ h))

-- ---- a setup packet

abbrev pub aborted : Rec → Rec
aborted r = record { ready = 0; armed = 0; len = r.len }

fresh : (c : Ep0Word) (r : Rec) → response c.last ≡ word.NAK → Fits (anew true c) renewed (aborted r)
fresh c r h = record { shows = λ _. h; toggles = λ _ b. differ b; armed = off }

pub set-up-fits : (rx tx : Ep0Word) (l g : ℕ) (p : Pipe) (x : View) (bytes eight : List ℕ) → (Octets eight
    → bytes ≡ eight) → x.stage ≡ 2
    → response rx.last ≡ word.NAK → response tx.last ≡ word.NAK
    → Rel (anew true rx) (anew true tx) l g (after setup p) nothing (waits eight) (set_ready 1 bytes (set_in (aborted
    x.inn) (out_is_set (aborted x.out) x)))
set-up-fits rx tx l g p x bytes eight e s h k = record {
  stage = s;
  out = fresh rx x.out h;
  inn = fresh tx x.inn k;
  waits = set_up on off off refl refl;
  size = λ z. differ z;
  received = λ b. differ b;
  setup = record { there = on; packet = e };
}
