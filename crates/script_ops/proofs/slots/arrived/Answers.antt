use mathlib.Core.Path.{◌≡◌, ap, ◌∙◌}
use mathlib.Core.List.{List}
use Prim.Native.Nat.{ℕ}
use lib.ListN.{length}
use Rattle.regs.specs.declared.Dir.TheVariants.{Out}
use Rattle.state.specs.declared.EpState.{EpState}
use Rattle.state.specs.Driver.{Driver, ep_on}
use Rattle.state.specs.State.{view}
use Rattle.state.specs.Laws.{view-sized}
use Rattle.ring.specs.Out.{arrived_of}
use Rattle.script_ops.specs.Rings.{St, recorded_on, arm_by, arrived_at}
use Rattle.script_ops.specs.RingLaws.{arrived-once}
use Rattle.script_ops.proofs.slots.arrived.Goals as goal

-- the code's steps, each by its result
stages : (e len : ℕ) (d : Driver) (b : List ℕ) {d' : Driver} {r x : EpState} → length d.eps ≡ 32
    → r ≡ ep_on d Out e → d' ≡ recorded_on d e len → x ≡ arrived_of r → arm_by e x x.head (d', b)
    ≡ arrived_at e len (d, b)
stages e len d b {d'} z h₁ h₂ h₃ =
    ap (λ (q : EpState). arm_by e q q.head (d', b)) (h₃ ∙ ap arrived_of h₁)
    ∙ ap (λ (w : Driver). arm_by e (arrived_of (ep_on d Out e)) (arrived_of (ep_on d Out e)).head (w, b)) h₂
    ∙ arrived-once e len d b z

pub record-requires : goal.record-requires
record-requires c =
    record {
      r_value = c.requires.r_value;
      entered_value = c.requires.entered_value;
    }

pub returns : goal.returns
returns c =
    let h = stages c.args.e c.args.len (view c.args.s.now) c.args.buf.now (view-sized c.args.s.now).eps c.requires.r_value
    c.«record».ensures.s_after
    c.arrived-x.ensures in
    record {
      value = c.arm.ensures.value ∙ ap (λ (x : ℕ × St). x.0) h;
      s_after = c.arm.ensures.s_after ∙ ap (λ (x : ℕ × St). x.1.0) h;
      buf_after = c.arm.ensures.buf_after ∙ ap (λ (x : ℕ × St). x.1.1) h;
      s_unchanged = c.arm.ensures.s_unchanged
          ∙ c.«record».ensures.s_unchanged;
    }
