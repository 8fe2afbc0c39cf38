-- Driver and book agree, operation by operation
use Rattle.std.specs.Prelude.{Bool, false, cond, ◌≡◌, refl, ℕ, ◌*◌, ◌%◌, ◌^◌}
use Rattle.std.proofs.Common.{ap}
use Rattle.regs.specs.declared.Dir.TheVariants.{Out, In}
use Rattle.regs.specs.Enables as enables
use Rattle.state.specs.declared.Globals.{Globals}
use Rattle.state.specs.declared.Allocator.{Allocator}
use Rattle.state.specs.Wakes.{unwoken, listed, all_woken}
use Rattle.state.specs.Driver.{Driver, ep_on}
use Rattle.script.specs.Cells.{EpCore}
use Rattle.script.specs.Script.{Test, changed, waiting, room, opened, Look, marked, next_len_lem, next_stamp_lem, setup_word}
use Rattle.script.specs.Script.{Fetch, oldest, received, received0, gathered, Act, complete, reset_ring, set_enabled_lem}
use Rattle.script.specs.Script.{fill, fill0, open_oldest, close_oldest, take_oldest, enqueue, allocate, allocate0}
use Rattle.script.specs.Script.{no_wakes, waken, DmaStep, arrive, send, place, place0}
use Rattle.script.specs.Statics.{is_on, flag}
use Rattle.script.specs.Answers.{is_number}
use Rattle.script.specs.Simulates.{Phase}
use Rattle.script.specs.Machine.{Buf, Question, pending, overruns, enabled}
use Rattle.script.specs.Agree.{Agree}
use Rattle.answer.specs.Questions.{pending_on, overruns_of, overruns_on, enabled_asked, question_of}
use Rattle.machine.specs.Suspended.{driver_of}
use Rattle.proof_book.specs.Pages.{Pages}
use Rattle.proof_book.specs.Book.{book, question_b}
use Rattle.proof_book.specs.Coupling.{Coupling, Chip, Good}
use Rattle.proof_book.specs.HeldLaws.{IsAgrees, LookAgrees, FetchAgrees, ActAgrees, HandAgrees, held-length}
use Rattle.proof_book.specs.CellsLaws.{gets, puts, wakes-kept, unfed, good_bare}
use Rattle.proof_book.proofs.AllocationsLaws.{allocates, starts, enables-kept}
use Rattle.proof_book.specs.ChipsLaws.{chip}
use Rattle.proof_book.proofs.OutsLaws.{is-changed, is-waiting-out, is-opened, look-marked, look-next-out}
use Rattle.proof_book.proofs.OutsLaws.{look-next-stamp, fetch-oldest, fetch-received, act-open, act-close}
use Rattle.proof_book.proofs.OutsLaws.{act-take, act-reset-out}
use Rattle.proof_book.proofs.ArrivesLaws.{hand-arrive, hand-place-out}
use Rattle.proof_book.proofs.InsLaws.{is-waiting-in, look-next-in, is-room, act-complete, act-reset-in}
use Rattle.proof_book.proofs.InsLaws.{act-enqueue, hand-place-in, hand-send}
use Rattle.proof_book.specs.BytesLaws.{act-fill, act-fill0, look-setup-word, fetch-received0, hand-place0}
use Rattle.proof_book.proofs.RowsLaws.{rows_first, rows_next, rows-finish}

-- ---- the questions

pub answers : (q : Question) (φ : Phase) (b : Buf) (d : Driver) (t : Pages) → Coupling φ b d t → question_of q d
    ≡ question_b q t
unfolding pending_on overruns_on overruns_of enabled_asked
answers (pending e) φ b d t r = ap (λ (n : ℕ). cond (is_number e) n 0) (held-length (r.ins e).held)
answers (overruns e) φ b d t r = ap (λ (n : ℕ). cond (is_number e) n 0)
    (lost (is_on (ep_on d Out e).iso) (is_on (t.kept.plain Out e).iso)
    (ap (λ (p : EpCore). is_on p.iso) (r.same.plain Out e)))
  where
    lost : (x y : Bool) → x ≡ y → cond x (ep_on d Out e).overruns 0 ≡ cond y ((t.outs e).lost % 2 ^ 32) 0
    lost x y h = rw (h, (r.outs e).lost) refl
answers (enabled dir e) φ b d t r = ap (λ (g : Globals). flag
    (cond (is_number e) (enables.is_on g.ep_config dir e) false)) r.same.globals

-- ---- each operation

pub tests : (q : Test) → IsAgrees q
tests (changed e) = is-changed e
tests (waiting Out e) = is-waiting-out e
tests (waiting In e) = is-waiting-in e
tests (room e n) = is-room e n
tests (opened e) = is-opened e

pub looks : (q : Look) → LookAgrees q
looks (marked e) = look-marked e
looks (next_len_lem Out e) = look-next-out e
looks (next_len_lem In e) = look-next-in e
looks (next_stamp_lem e) = look-next-stamp e
looks (setup_word k) = look-setup-word k

pub fetches : (q : Fetch) → FetchAgrees q
fetches (oldest e) = fetch-oldest e
fetches (received e n) = fetch-received e n
fetches (received0 n) = fetch-received0 n
fetches gathered = λ b d t r. ap listed r.same.wakes

pub acts : (q : Act) → ActAgrees q
acts (complete e) = act-complete e
acts (reset_ring Out e) = act-reset-out e
acts (reset_ring In e) = act-reset-in e
acts (set_enabled_lem dir e on) = λ b d t r. (refl, enables-kept r dir e on)
acts (fill e bytes) = act-fill e bytes
acts (fill0 bytes) = act-fill0 bytes
acts (open_oldest e) = act-open e
acts (close_oldest e) = act-close e
acts (take_oldest e) = act-take e
acts (enqueue e bytes) = act-enqueue e bytes
acts (allocate dir kind address maximum interval) = λ b d t r. (refl, allocates r dir kind address maximum interval)
acts (allocate0 maximum) = λ b d t r. (refl, starts r maximum)
acts no_wakes = λ b d t r. (refl, wakes-kept r _ _ (ap unwoken r.same.wakes))
acts (waken codes) = λ b d t r. (refl, wakes-kept r _ _ (ap (all_woken codes) r.same.wakes))

pub hands : (q : DmaStep) → HandAgrees q
hands (arrive e n) = hand-arrive e n
hands (send e) = hand-send e
hands (place Out e) = hand-place-out e
hands (place In e) = hand-place-in e
hands place0 = hand-place0

abbrev pub agree : Agree driver_of book
agree = record {
  Coupling = Coupling;
  Good = Good;
  Chip = Chip;
  chip = chip;
  size = λ φ b d t r. ap (λ (a : Allocator). a.count * a.size) r.same.allocator;
  answer = answers;
  unfed = unfed;
  good_bare = good_bare;
  get = gets;
  put = puts;
  is = tests;
  look = looks;
  fetch = fetches;
  act = acts;
  hand = hands;
  first = rows_first;
  next = rows_next;
  finish = rows-finish;
}
