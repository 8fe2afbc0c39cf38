-- What two such states say of every other endpoint: "the same queue, stamps, bytes, overruns and wake-ups"
use Rattle.std.specs.Prelude.{false, ◌≢◌, ◌≡◌, ℕ, ◌+◌, ◌≤◌, ◌<◌, get_or}
use Rattle.std.proofs.Math.Bool.{cond}
use Rattle.std.proofs.Math.Path.{ap}
use Rattle.std.proofs.Common.{sym, ◌∙◌, arith}
use Rattle.regs.specs.declared.Dir.{Dir}
use Rattle.regs.specs.declared.Dir.TheVariants.{Out, In}
use Rattle.state.specs.declared.EpState.{EpState}
use Rattle.state.specs.Driver.{Driver, key, ep_on}
use Rattle.state.specs.Wakes.{listed}
use Rattle.ring.specs.Waiting.{waiting}
use Rattle.ring.specs.Laws.{waiting-outside}
use Rattle.ring.specs.Slot.{count_of}
use Rattle.regs.specs.Enables as enables
use Rattle.state.specs.declared.Globals.{Globals}
use Rattle.script.specs.Answers.{Answer, is_number}
use Rattle.script.specs.Statics.{flag}
use Rattle.script.specs.Simulates.{Phase}
use Rattle.script.specs.Machine.{Question, pending, overruns, enabled, Pending}
use Rattle.proof_wake_ups.specs.Twins.{Short}
use Rattle.answer.specs.Questions.{pending_on, overruns_of, overruns_on, enabled_asked, question_of}
use Rattle.script_ops.specs.Rings.{St}
use Rattle.proof_book.specs.Coupling.{end_of, lens_of, slot_stamps}
use Rattle.proof_book.specs.Stamps.{stamped}
use Rattle.proof_isolation.specs.EqualExcept.{SameCodes, Channel, LowEquiv}
use Rattle.proof_isolation.specs.ButsLaws.{others_same, ep0-same}
use Rattle.proof_isolation.specs.Schedule.{Asked, SameOthers}
use Rattle.proof_isolation.proofs.ValuesLaws.{in-other}

module _ {c : Channel} {φ : Phase} {s t : St} (l : LowEquiv c φ s t) where
  -- the packets that wait, tail to head, each with its bytes
  pub same_queue : (dir : Dir) (e : ℕ) → key dir e ≢ key Out c.number
      → waiting s.1 (ep_on s.0 dir e) (lens_of s.0 dir e)
      ≡ waiting t.1 (ep_on t.0 dir e) (lens_of t.0 dir e)
  same_queue Out e n =
      let f = (l.left.rest.outs e).held in
      sym (waiting-outside f.placed f.ring s.1 t.1 (others_same l Out e _ _ n (omega arith) (omega arith)))
      ∙ ap (λ (r : EpState). waiting t.1 r (lens_of s.0 Out e)) (l.but.eps Out e n)
      ∙ ap (λ m. waiting t.1 (ep_on t.0 Out e) m) (l.but.lens Out e n)
  same_queue In e n =
      let f = (l.left.rest.ins e).held in
      sym (waiting-outside f.placed f.ring s.1 t.1 (others_same l In e _ _ n (omega arith) (omega arith)))
      ∙ ap (λ (r : EpState). waiting t.1 r (lens_of s.0 In e)) (l.but.eps In e n)
      ∙ ap (λ m. waiting t.1 (ep_on t.0 In e) m) (l.but.lens In e n)

  -- their stamps
  pub same-stamps : (e : ℕ) → key Out e ≢ key Out c.number
      → stamped (ep_on s.0 Out e) (slot_stamps s.0 e) ≡ stamped (ep_on t.0 Out e) (slot_stamps t.0 e)
  same-stamps e n = ap (λ (r : EpState). stamped r (slot_stamps s.0 e)) (l.but.eps Out e n)
      ∙ ap (λ m. stamped (ep_on t.0 Out e) m) (l.but.stamps e n)

  -- the bytes of its slots
  pub same_bytes : (dir : Dir) (e k : ℕ) → key dir e ≢ key Out c.number
      → (ep_on s.0 dir e).base ≤ k → k < end_of (ep_on s.0 dir e) → get_or s.1 k 0 ≡ get_or t.1 k 0
  same_bytes dir e k n p q = sym (others_same l dir e _ _ n (omega arith) (omega arith) k p q)

  -- and of EP0's buffer
  pub same-ep0 : (k : ℕ) → s.0.globals.ep0_buf ≤ k → k < s.0.globals.ep0_buf + s.0.allocator.size
      → get_or s.1 k 0 ≡ get_or t.1 k 0
  same-ep0 k p q = sym (ep0-same l _ _ (omega arith) (omega arith) k p q)

  -- the packets turned away
  pub same-overruns : (e : ℕ) → key Out e ≢ key Out c.number → (ep_on s.0 Out e).overruns
      ≡ (ep_on t.0 Out e).overruns
  same-overruns e n = ap (λ (r : EpState). r.overruns) (l.but.eps Out e n)

  -- the wake-ups gathered so far, of all others and of the bus, in their order
  pub same-wakes : SameCodes c.number (listed s.0.wakes) (listed t.0.wakes)
  same-wakes = l.but.wakes.same

  pub same-answers : (q : Question) → Asked c q → question_of q s.0 ≡ question_of q t.0
  unfolding pending_on overruns_on enabled_asked
  same-answers (pending e) n = ap (λ (r : EpState). cond (is_number e) (count_of r) 0)
      (l.but.eps In e (in-other c.number e))
  same-answers (overruns e) n = ap (λ (r : EpState). cond (is_number e) (overruns_of r) 0) (l.but.eps Out e n)
  same-answers (enabled dir e) n = ap (λ (g : Globals). flag
      (cond (is_number e) (enables.is_on g.ep_config dir e) false)) l.but.globals

-- the wake-ups without a premise where there is room for more, which there is in every run (`proof_wake_ups`)
pub same-others : {c : Channel} {φ : Phase} {s t : St}
    → LowEquiv c φ s t → Short (listed s.0.wakes) → Short (listed t.0.wakes) → {w w' : Pending Answer Driver}
    → SameOthers c (record { under_way_lem = w; st = s.0; buf = s.1 }) (record { under_way_lem = w'; st = t.0; buf = t.1 })
same-others l p q = record {
  queue = same_queue l;
  stamps = same-stamps l;
  bytes = same_bytes l;
  ep0_place = ap (λ (g : Globals). g.ep0_buf) l.but.globals;
  ep0 = same-ep0 l;
  overrun = same-overruns l;
  wakes = same-wakes l p q;
  questions = same-answers l;
}
