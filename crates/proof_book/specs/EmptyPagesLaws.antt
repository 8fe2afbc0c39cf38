-- Laws: a ring whose head and tail are 0 has none that wait, and its page is the empty one
use Rattle.std.specs.Prelude.{Bool, List, [], ◌≡◌, refl, ℕ, ◌+◌, ◌-◌, ◌%◌, ◌^◌, ◌≤◌, eqb}
use Rattle.std.proofs.Common.{true≢false, ap, sym, ◌∙◌}
use Rattle.state.specs.declared.EpState.{EpState}
use Rattle.ring.specs.Waiting.{Shows}
use Rattle.ring.specs.Laws.{reset-count}
use Rattle.script.specs.Statics.{flag}
use Rattle.script.specs.Machine.{Buf}
use Rattle.proof_book.specs.Pages.{OutPage}
use Rattle.proof_book.specs.Book.{empty_out, empty_in}
use Rattle.proof_book.specs.StampsLaws.{none-stamps}
use Rattle.proof_book.specs.Coupling.{Held, OutFits, InFits, end_of}
use Rattle.proof_book.specs.FrameLaws.{none-stands}

-- the count of those turned away, and the slot that the chip was told, one of the endpoint's own
pub record Seat (r : EpState) (p : OutPage) : Type 0 where
  pub lost : r.overruns ≡ p.lost % 2 ^ 32
  pub slot : r.armed_slot ≡ p.slot
  pub from : r.base ≤ p.slot
  pub upto : p.slot + r.stride ≤ end_of r

-- whether a packet is shown
pub record Shown (r : EpState) (o : Bool) : Type 0 where
  pub opened : r.«open» ≡ flag o
  pub shows : Shows r

module _ {b : Buf} {r : EpState} {ls : List ℕ} (h : r.head ≡ 0) (l : r.tail ≡ 0) where
  pub empty-out : r.«open» ≡ 0 → Held (r.slots - 1) b r ls [] → (p : OutPage) → Seat r p → (ss : List ℕ)
      → OutFits b r ls ss (empty_out p)
  empty-out o held p z ss = record {
    held = held;
    stamps = none-stamps r ss (reset-count r h l);
    opened = o;
    shows = λ q. absurd (true≢false (sym (ap (λ (n : ℕ). eqb n 0) o) ∙ q));
    lost = z.lost;
    slot = z.slot;
    from = z.from;
    upto = z.upto;
    ledger = refl;
    short = tt;
  }

  pub empty-in : r.loaded ≡ 0 → Held r.slots b r ls [] → InFits b r ls empty_in
  empty-in o held = record {
    held = held;
    ringless = λ _. reset-count r h l;
    loaded = o;
    sends = λ q. absurd (true≢false (sym (ap (λ (n : ℕ). eqb n 0) o) ∙ q));
    turn = ap (λ (n : ℕ). n % 2) h;
    ledger = refl;
    reached = refl;
    stands = none-stands refl;
  }
