-- The book of document 01 ("The book of demand 3"): fed the calls, the readings and bytes they bring and the accesses
-- they hand out; it sees no driver state. Each operation of a script as the book has it
use Rattle.std.specs.Prelude.{Bool, true, false, not, cond, ◌&&◌, ℕ, zero, suc, ◌+◌, ◌*◌, ◌%◌, ◌^◌, min, eqb, ltb, length}
use mathlib.Core.List.{List, [], ◌∷◌, ◌++◌, tail}
use Rattle.bits.specs.Bit.{bit_is_set}
use Rattle.regs.specs.declared.Access.{Access}
use Rattle.regs.specs.declared.Access.TheVariants.{Read, Write, Receive, Transmit, Ep0Dma, Wait, Callback}
use Rattle.regs.specs.declared.Dir.{Dir}
use Rattle.regs.specs.declared.Dir.TheVariants.{Out, In}
use Rattle.regs.specs.Enables as enables
use Rattle.state.specs.declared.Globals.{Globals}
use Rattle.state.specs.Ep.{new_ep}
use Rattle.state.specs.Kept.{with_ep_config, with_ep_type}
use Rattle.state.specs.Wakes.{none_woken, unwoken, listed, all_woken}
use Rattle.state.specs.Fresh.{fresh_globals, fresh_allocator, no_control}
use Rattle.state.specs.Driver.{no_request}
use Rattle.alloc.specs.declared.Answer.{Answer}
use Rattle.alloc.specs.declared.Answer.TheVariants.{Refused, Given}
use Rattle.alloc.specs.Alloc.{allocate_of, allocate_ep0_of, is_iso}
use Rattle.ring.specs.Marks.{is_marked, marked_len}
use Rattle.ring.specs.Copies.{copied, bytes_at}
use Rattle.script.specs.Cells.{EpCore, Cell, Val, globals-cell, control-cell, allocator-cell, ep-cell, request-cell}
use Rattle.script.specs.Cells.{paced_cell}
use Rattle.script.specs.Script.{Ops, Test, changed, waiting, room, opened, Look, marked, next_len_lem, next_stamp_lem}
use Rattle.script.specs.Script.{setup_word, Fetch, oldest, received, received0, gathered, Act, complete, reset_ring}
use Rattle.script.specs.Script.{set_enabled_lem, fill, fill0, open_oldest, close_oldest, take_oldest, enqueue, allocate}
use Rattle.script.specs.Script.{allocate0, no_wakes, waken, DmaStep, arrive, send, place, place0, Burst, switch}
use Rattle.script.specs.Script.{bus_reset_lem}
use Rattle.script.specs.Statics.{is_on, flag, iso_outs, renewed, with_setup, with_ready, with_len, with_armed, with_last_frame}
use Rattle.script.specs.Statics.{with_tog}
use Rattle.script.specs.Answers.{is_number}
use Rattle.script.specs.Calls.{Config}
use Rattle.script.specs.Machine as machine
use Rattle.script.specs.Machine.{Buf, Question, pending, overruns, enabled}
use Rattle.script_ops.specs.Records.{plain_of, merged_globals, with_sets, with_ep0}
use Rattle.script_ops.specs.Rings.{word_at}
use Rattle.proof_book.specs.Pages.{Packet, bytes_of, OutPage, InPage, Pages, with_kept, with_out}
use Rattle.proof_book.specs.Pages.{with_in, kept_globals, kept_wakes, kept_control, kept_allocator, kept_paced}
use Rattle.proof_book.specs.Pages.{kept_request, kept_plain}

-- the book with the lent bytes
abbrev pub Bk : Type 0
Bk = Pages × Buf

-- ---- lists of packets

abbrev pub some : List (List ℕ) → Bool
some [] = false
some (p ∷ ps) = true

abbrev pub first : List (List ℕ) → List ℕ
first [] = []
first (p ∷ ps) = p

abbrev pub first_stamp : List Packet → ℕ
first_stamp [] = 0
first_stamp (p ∷ ps) = p.stamp

-- the first, or none
abbrev pub front : {A : Type 0} → List A → List A
front [] = []
front (x ∷ xs) = x ∷ []

-- ---- pages

abbrev pub with_waiting : OutPage → List Packet → Bool → OutPage
with_waiting p w o = record {
  waiting = w;
  opened = o;
  lost = p.lost;
  slot = p.slot;
  admitted = p.admitted;
  read
      = p.read;
}

abbrev pub with_ledger : OutPage → List Packet → List Packet → OutPage
with_ledger p a r = record {
  waiting = p.waiting;
  opened = p.opened;
  lost = p.lost;
  slot = p.slot;
  admitted = a;
  read
      = r;
}

-- admitted
abbrev pub joined : OutPage → Packet → OutPage
joined p q = with_ledger (with_waiting p (p.waiting ++ (q ∷ [])) p.opened) (p.admitted ++ (q ∷ [])) p.read

-- turned away
abbrev pub overrun : OutPage → OutPage
overrun p = record { waiting = p.waiting; opened = p.opened; lost = p.lost + 1; slot = p.slot; admitted = p.admitted; read = p.read }

-- "it joins those waiting, last, …; with 15 waiting it is turned away and the endpoint's count rises"
abbrev pub arrived : OutPage → Packet → OutPage
arrived p q = cond (ltb (length p.waiting) 15)
    (joined p q)
    (overrun p)

-- "the first waiting is read"
abbrev pub read_out : OutPage → OutPage
read_out p = with_ledger (with_waiting p (tail p.waiting) false) p.admitted (p.read ++ front p.waiting)

abbrev pub open_out : OutPage → OutPage
open_out p = with_waiting p p.waiting true

-- "Reset: none wait on that endpoint"
abbrev pub empty_out : OutPage → OutPage
empty_out p = with_ledger (with_waiting p [] false) [] []

-- "the armed slot is that of the endpoint's last receive address"
abbrev pub slot_told : OutPage → ℕ → OutPage
slot_told p x = record {
  waiting = p.waiting;
  opened = p.opened;
  lost = p.lost;
  slot = x;
  admitted = p.admitted;
  read
      = p.read;
}

abbrev pub in_page : List (List ℕ) → Bool → Bool → ℕ → List (List ℕ) → List (List ℕ) → List (List ℕ) → ℕ → Buf → InPage
in_page w g l n q s p x b = record {
  waiting = w;
  sending = g;
  load = l;
  turn = n;
  queued = q;
  sent = s;
  passed
      = p;
  source = x;
  shown = b;
}

abbrev pub empty_in : InPage
empty_in = in_page [] false false 0 [] [] [] 0 []

-- the packets of an IN: those waiting, the slot of the next, those queued, sent and passed in the stretch
abbrev pub with_packets : InPage → List (List ℕ) → ℕ → List (List ℕ) → List (List ℕ) → List (List ℕ) → InPage
with_packets i w n q s p = in_page w i.sending i.load n q s p i.source i.shown

-- whether one is being sent, whether the last address is a load's, from where, and the lent bytes as they stood then
abbrev pub with_sending : InPage → Bool → Bool → ℕ → Buf → InPage
with_sending i g l x b = in_page i.waiting g l i.turn i.queued i.sent i.passed x b

-- "Load: what the Rust's tail passes waits no more"
abbrev pub passed_in : InPage → InPage
passed_in p = with_sending
    (with_packets p (cond p.sending (tail p.waiting) p.waiting) p.turn p.queued p.sent
    (p.passed ++ cond p.sending (front p.waiting) []))
    false false 0 []

-- the first is being sent: it reaches the chip, unless it was being sent already; b: the lent bytes as they stand then
abbrev pub sent_in : InPage → Buf → InPage
sent_in p b = with_sending
    (with_packets p p.waiting p.turn p.queued (p.sent ++ cond p.sending [] (front p.waiting)) p.passed)
    true true p.source (cond p.sending p.shown b)

-- a load's transmit address is that of the one being sent
abbrev pub source_told : InPage → ℕ → InPage
source_told p x = with_sending p p.sending p.load (cond p.load x p.source) p.shown

-- an address that sends nothing
abbrev pub placed_in : InPage → InPage
placed_in p = with_sending p p.sending false p.source p.shown

abbrev pub loaded_in : InPage → Buf → InPage
loaded_in p b = cond (some p.waiting) (sent_in p b) (placed_in p)

-- "Queue: its bytes wait, last"; it is not sent before its address is handed out
abbrev pub queued_in : InPage → List ℕ → InPage
queued_in p bytes = with_packets p (p.waiting ++ (bytes ∷ [])) ((p.turn + 1) % 2) (p.queued ++ (bytes ∷ [])) p.sent p.passed

-- ---- kept values

-- of an endpoint's record `ready`, `len`, `armed`, `last_frame` and `tog` are assigned
abbrev pub merged_plain : EpCore → EpCore → EpCore
merged_plain p v = with_tog v.tog (with_last_frame v.last_frame
    (with_armed v.armed (with_len v.len (with_ready v.ready p))))

-- an endpoint's record after its allocation
abbrev pub shaped_plain : EpCore → ℕ → ℕ → ℕ → EpCore
shaped_plain p kind maximum base = record {
  ready = 0;
  len = p.len;
  armed = 0;
  last_frame = 0x1800;
  tog = 0;
  iso = flag (is_iso kind);
  kind = kind % 4;
  base = base;
  max_len = maximum;
}

abbrev pub iso_of : Pages → Dir → ℕ → Bool
iso_of t d e = is_on (t.kept.plain d e).iso

abbrev pub iso_out : Pages → Dir → ℕ → Bool
iso_out t Out e = iso_of t Out e
iso_out t In e = false

-- the enabled isochronous OUT endpoints
abbrev pub receiving : Pages → ℕ → Bool
receiving t e = bit_is_set (iso_outs t.kept.globals) (e % 16)

abbrev pub globals_by : Pages → (Globals → Globals) → Pages
globals_by t f = with_kept t (kept_globals t.kept (f t.kept.globals))

-- ---- what is read and assigned

abbrev pub get_b : (c : Cell) → Bk → Val c
get_b globals-cell s = s.0.kept.globals
get_b control-cell s = s.0.kept.control
get_b allocator-cell s = s.0.kept.allocator
get_b (ep-cell d e) s = s.0.kept.plain d e
get_b (request-cell d e) s = s.0.kept.requests d e
get_b (paced_cell e) s = s.0.kept.paced e

abbrev pub put_b : (c : Cell) → Val c → Bk → Bk
put_b globals-cell v s = (with_kept s.0 (kept_globals s.0.kept (merged_globals s.0.kept.globals v)), s.1)
put_b control-cell v s = (with_kept s.0 (kept_control s.0.kept v), s.1)
put_b allocator-cell v s = s
put_b (ep-cell d e) v s = (with_kept s.0 (kept_plain s.0.kept d e (merged_plain (s.0.kept.plain d e) v)), s.1)
put_b (request-cell d e) v s = (with_kept s.0 (kept_request s.0.kept d e v), s.1)
put_b (paced_cell e) v s = (with_kept s.0 (kept_paced s.0.kept e v), s.1)

-- ---- what is asked

abbrev pub waits_on : Pages → Dir → ℕ → List (List ℕ)
waits_on t Out e = bytes_of (t.outs e).waiting
waits_on t In e = (t.ins e).waiting

-- room for a packet: isochronous, fewer than 2 waiting (else row 13), bytes that fit a slot
abbrev pub room_b : Pages → ℕ → ℕ → Bool
room_b t e n = iso_of t In e && (ltb (length (t.ins e).waiting) 2 && not (ltb t.kept.allocator.size n))

abbrev pub is_b : Test → Bk → Bool
is_b (changed e) s = not (is_marked s.1 (s.0.outs e).slot)
is_b (waiting d e) s = some (waits_on s.0 d e)
is_b (room e n) s = room_b s.0 e n
is_b (opened e) s = (s.0.outs e).opened

abbrev pub look_b : Look → Bk → ℕ
look_b (marked e) s = marked_len s.1 (s.0.outs e).slot (s.0.kept.plain Out e).max_len
look_b (next_len_lem d e) s = length (first (waits_on s.0 d e))
look_b (next_stamp_lem e) s = first_stamp (s.0.outs e).waiting
look_b (setup_word k) s = word_at s.1 (s.0.kept.globals.ep0_buf + k * 4)

abbrev pub fetch_b : Fetch → Bk → List ℕ
fetch_b (oldest e) s = first (waits_on s.0 Out e)
fetch_b (received e n) s = bytes_at s.1 (s.0.kept.plain Out e).base n
fetch_b (received0 n) s = bytes_at s.1 s.0.kept.globals.ep0_buf n
fetch_b gathered s = listed s.0.kept.wakes

-- ---- changes

abbrev pub reset_b : Pages → Dir → ℕ → Pages
reset_b t Out e = cond (iso_of t Out e) t (with_out t e (empty_out (t.outs e)))
reset_b t In e = with_in t e empty_in

abbrev pub enable_b : Pages → Dir → ℕ → Bool → Pages
enable_b t d e onn = cond (iso_out t d e) t (globals_by t (λ g. with_ep_config (enables.with_on g.ep_config d e onn) g))

abbrev pub fill_b : ℕ → List ℕ → Bk → Buf
fill_b e bytes s =
    let p = s.0.kept.plain In e in
    cond (is_on p.iso) s.1 (cond (ltb p.max_len (length bytes)) s.1 (copied s.1 p.base bytes))

abbrev pub fillB0 : List ℕ → Bk → Buf
fillB0 bytes s =
    let g = s.0.kept.globals in
    cond (ltb g.ep0_max (length bytes)) s.1 (copied s.1 g.ep0_buf bytes)

abbrev pub open_b : Pages → ℕ → Pages
open_b t e = cond (some (waits_on t Out e)) (with_out t e (open_out (t.outs e))) t

abbrev pub close_b : Pages → ℕ → Pages
close_b t e = cond (t.outs e).opened (with_out t e (read_out (t.outs e))) t

abbrev pub take_b : Pages → ℕ → Pages
take_b t e = cond (some (waits_on t Out e)) (with_out t e (read_out (t.outs e))) t

abbrev pub enqueue_b : ℕ → List ℕ → Bk → Bk
enqueue_b e bytes s =
    cond (room_b s.0 e (length bytes)) (
      with_in s.0 e (queued_in (s.0.ins e) bytes),
      copied s.1 ((s.0.kept.plain In e).base + (s.0.ins e).turn
          * s.0.kept.allocator.size) bytes,
    )
    s

-- an endpoint's page after its allocation: none wait, and its buffer stands for the last receive address
abbrev pub pages_given : Dir → ℕ → ℕ → Pages → Pages
pages_given Out e base t = with_out t e (slot_told (empty_out (t.outs e)) base)
pages_given In e base t = with_in t e empty_in

abbrev pub given_b : Dir → ℕ → ℕ → ℕ → Answer → Pages → Pages
given_b d kind maximum interval (Refused n) t = t
given_b d kind maximum interval (Given e base slots) t =
    globals_by (pages_given d e base (with_kept t (kept_plain t.kept d e
    (shaped_plain (t.kept.plain d e) kind maximum base)))) (with_sets d kind interval e)

abbrev pub allocate_b : Dir → ℕ → ℕ → ℕ → ℕ → Pages → Pages
allocate_b d kind address maximum interval t =
    let z = allocate_of t.kept.allocator kind address maximum d in
    given_b d kind maximum interval z.answer (with_kept t (kept_allocator t.kept z.after))

abbrev pub started_b : ℕ → Answer → Pages → Pages
started_b maximum (Refused n) t = t
started_b maximum (Given e base slots) t = globals_by t (with_ep0 base maximum)

abbrev pub allocateB0 : ℕ → Pages → Pages
allocateB0 maximum t =
    let z = allocate_ep0_of t.kept.allocator maximum in
    started_b maximum z.answer (with_kept t (kept_allocator t.kept z.after))

abbrev pub act_b : Act → Bk → Bk
act_b (complete e) s = (with_in s.0 e (passed_in (s.0.ins e)), s.1)
act_b (reset_ring d e) s = (reset_b s.0 d e, s.1)
act_b (set_enabled_lem d e onn) s = (enable_b s.0 d e onn, s.1)
act_b (fill e bytes) s = (s.0, fill_b e bytes s)
act_b (fill0 bytes) s = (s.0, fillB0 bytes s)
act_b (open_oldest e) s = (open_b s.0 e, s.1)
act_b (close_oldest e) s = (close_b s.0 e, s.1)
act_b (take_oldest e) s = (take_b s.0 e, s.1)
act_b (enqueue e bytes) s = enqueue_b e bytes s
act_b (allocate d kind address maximum interval) s = (allocate_b d kind address maximum interval s.0, s.1)
act_b (allocate0 maximum) s = (allocateB0 maximum s.0, s.1)
act_b no_wakes s = (with_kept s.0 (kept_wakes s.0.kept (unwoken s.0.kept.wakes)), s.1)
act_b (waken codes) s = (with_kept s.0 (kept_wakes s.0.kept (all_woken codes s.0.kept.wakes)), s.1)

-- ---- changes with an access: the book is told the driver's addresses

-- "with its slot's bytes in that call up to its length", a length is capped at the maximum; and with the microframe
-- with which the interrupt began
abbrev pub packet_b : ℕ → ℕ → Bk → Packet
packet_b e n s = record {
  bytes = bytes_at s.1 (s.0.outs e).slot (min n (s.0.kept.plain Out e).max_len);
  stamp = s.0.kept.globals.entered;
}

abbrev pub arrive_b : ℕ → ℕ → Bk → Pages
arrive_b e n s = cond (receiving s.0 e) (with_out s.0 e (arrived (s.0.outs e) (packet_b e n s))) s.0

abbrev pub place_b : Pages → Dir → ℕ → Pages
place_b t Out e = t
place_b t In e = with_in t e (placed_in (t.ins e))

abbrev pub hand_b : DmaStep → Bk → ℕ × Bk
hand_b (arrive e n) s = (0, (arrive_b e n s, s.1))
hand_b (send e) s = (0, (with_in s.0 e (loaded_in (s.0.ins e) s.1), s.1))
hand_b (place d e) s = (0, (place_b s.0 d e, s.1))
hand_b place0 s = (0, s)

-- an isochronous OUT switched: none wait from its first access on; ep_type and ep_config at the last two
abbrev pub switch_b : ℕ → Bool → ℕ → Pages → ℕ × Pages
switch_b e onn zero t =
    let v = cond (iso_of t Out e) (enables.with_on t.kept.globals.ep_config Out e onn)
    t.kept.globals.ep_config in
    (v, globals_by t (with_ep_config v))
switch_b e onn (suc zero) t =
    let v = cond (iso_of t Out e) (enables.with_on t.kept.globals.ep_type Out e onn)
    t.kept.globals.ep_type in
    (v, globals_by t (with_ep_type v))
switch_b e onn (suc (suc zero)) t = (0, t)
switch_b e onn (suc (suc (suc k))) t = (
  0,
  cond (iso_of t Out e && eqb k 15)
      (with_out (with_kept t (kept_plain t.kept Out e (renewed (t.kept.plain Out e)))) e (empty_out (t.outs e))) t,
)

-- a bus reset: none wait on any endpoint, from the release of the flag on
abbrev pub all_reset : Pages → Pages
all_reset t = record {
  kept = record {
    globals = let g = t.kept.globals in with_setup 0 g.setup_low g.setup_high g;
    wakes = t.kept.wakes;
    control = t.kept.control;
    allocator = t.kept.allocator;
    paced = t.kept.paced;
    requests = t.kept.requests;
    plain = λ d e. renewed (t.kept.plain d e);
  };
  outs = λ e. empty_out (t.outs e);
  ins = λ e. empty_in;
}

abbrev pub bus_reset_b : ℕ → Pages → Pages
bus_reset_b zero t = all_reset t
bus_reset_b (suc zero) t = t
bus_reset_b (suc (suc zero)) t = globals_by t (with_ep_type 0)
bus_reset_b (suc (suc (suc k))) t = globals_by t (with_ep_config 0)

abbrev pub row_b : Burst → ℕ → Bk → ℕ × Bk
row_b (switch e onn) n s = ((switch_b e onn n s.0).0, ((switch_b e onn n s.0).1, s.1))
row_b bus_reset_lem n s = (0, (bus_reset_b n s.0, s.1))

abbrev pub book_ops : Ops Bk
book_ops = record {
  get = get_b;
  put = put_b;
  is = is_b;
  look = look_b;
  fetch = fetch_b;
  act = act_b;
  hand = hand_b;
  row
      = row_b;
}

-- ---- start-up, questions, what it is told

-- "Start-up: none wait, counts 0"
abbrev pub fresh_pages : Config → Pages
fresh_pages c = record {
  kept = record {
    globals = fresh_globals (flag c.callback);
    wakes = none_woken;
    control = no_control;
    allocator = fresh_allocator c.size c.count;
    paced = λ e. 0x1800;
    requests = λ d e. no_request;
    plain = λ d e. plain_of new_ep;
  };
  outs = λ e. record { waiting = []; opened = false; lost = 0; slot = 0; admitted = []; read = [] };
  ins = λ e. empty_in;
}

-- "overruns answers the count modulo 2^32", 0 for an endpoint that is not isochronous
abbrev pub question_b : Question → Pages → ℕ
question_b (pending e) t = cond (is_number e) (length (t.ins e).waiting) 0
question_b (overruns e) t = cond (is_number e) (cond (iso_of t Out e) ((t.outs e).lost % 2 ^ 32) 0) 0
question_b (enabled d e) t = flag (cond (is_number e) (enables.is_on t.kept.globals.ep_config d e) false)

abbrev pub feed_b : Access → Pages → Pages
feed_b (Read r e) t = t
feed_b (Write r e v) t = t
feed_b (Receive e x) t = with_out t e (slot_told (t.outs e) x)
feed_b (Transmit e x) t = with_in t e (source_told (t.ins e) x)
feed_b (Ep0Dma x) t = t
feed_b (Wait n) t = t
feed_b Callback t = t

abbrev pub book : machine.Book Config Pages
book = record {
  driver = record {
    ops = book_ops;
    fresh = fresh_pages;
    size = λ t. t.kept.allocator.count
        * t.kept.allocator.size;
    question = question_b;
  };
  feed = feed_b;
}
