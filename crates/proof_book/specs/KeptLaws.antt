-- Laws on the kept values that driver and book have alike (`SameKept`, Coupling.antt): those of all endpoints set anew,
-- or those of each
use Rattle.std.specs.Prelude.{◌≡◌, ℕ}
use Rattle.std.proofs.Common.{ap, ◌∙◌}
use Rattle.regs.specs.declared.Dir.{Dir}
use Rattle.state.specs.declared.Allocator.{Allocator}
use Rattle.state.specs.declared.Control.{Control}
use Rattle.state.specs.declared.Globals.{Globals}
use Rattle.state.specs.declared.Request.{Request}
use Rattle.state.specs.Driver.{Driver, ep_on, paced_on, request_on}
use Rattle.state.specs.Wakes.{Wakes}
use Rattle.script.specs.Cells.{EpCore}
use Rattle.script_ops.specs.Records.{plain_of}
use Rattle.proof_book.specs.Pages.{Kept, kept_values, kept_tables}
use Rattle.proof_book.specs.Coupling.{SameKept}

-- the values of each endpoint stay
abbrev pub TablesStay : Driver → Driver → Type 0
TablesStay d d' =
    ((e : ℕ) → paced_on d' e ≡ paced_on d e)
    × ((dir : Dir) (e : ℕ) → request_on d' dir e ≡ request_on d dir e)
    × ((dir : Dir) (e : ℕ) → plain_of (ep_on d' dir e) ≡ plain_of (ep_on d dir e))

pub same_values : {d d' : Driver} {k : Kept} {g : Globals} {w : Wakes} {c : Control} {a : Allocator} → SameKept d k
    → TablesStay d d'
    → d'.globals ≡ g → d'.wakes ≡ w → d'.control ≡ c → d'.allocator ≡ a → SameKept d' (kept_values k g w c a)
same_values s z g w c a = record {
  globals = g;
  wakes = w;
  control = c;
  allocator = a;
  paced = λ e. z.0 e ∙ s.paced e;
  requests = λ dir e. z.1 dir e ∙ s.requests dir e;
  plain = λ dir e. z.2 dir e ∙ s.plain dir e;
}

-- the values of all endpoints
abbrev pub Values : Type 0
Values = Globals × Wakes × Control × Allocator

abbrev pub values_of : Driver → Values
values_of d = (d.globals, d.wakes, d.control, d.allocator)

pub same_tables : {d d' : Driver} {k : Kept} {p : ℕ → ℕ} {r : Dir → ℕ → Request} {x : Dir → ℕ → EpCore} → SameKept d k
    → values_of d' ≡ values_of d
    → ((e : ℕ) → paced_on d' e ≡ p e) → ((dir : Dir) (e : ℕ) → request_on d' dir e ≡ r dir e)
    → ((dir : Dir) (e : ℕ) → plain_of (ep_on d' dir e) ≡ x dir e) → SameKept d' (kept_tables k p r x)
same_tables s v p r x = record {
  globals = ap (λ (y : Values). y.0) v ∙ s.globals;
  wakes = ap (λ (y : Values). y.1) v ∙ s.wakes;
  control = ap (λ (y : Values). y.2) v ∙ s.control;
  allocator = ap (λ (y : Values). y.3) v ∙ s.allocator;
  paced = p;
  requests = r;
  plain = x;
}
