use mathlib.Core.Path.{◌∙◌, ap, sym}
use Prim.Native.Nat.{ℕ}
use Rattle.state.specs.State.{view}
use Rattle.descriptor.specs.Writing.{up_to}
use Rattle.driver.specs.Each.{announce_all}
use Rattle.driver.specs.EachLaws.{announce-none, announce-first}
use Rattle.script_ops.specs.Concrete.{go}
use Rattle.driver.proofs.alloc_all.announce_all.Goals as goal

pub returns-then-n-eq0 : goal.returns-then-n-eq0
returns-then-n-eq0 c =
    record {
      by_index = λ b. sym (announce-none c.args.list.entries (view c.args.s.now) b)
          ∙ ap (λ (n : ℕ). go (announce_all (up_to n c.args.list.entries)) (view c.args.s.now) b)
          (sym c.if-n-eq0.true ∙ c.count-n.ensures);
      linked = tt;
    }

pub returns : goal.returns
returns c =
    record {
      by_index = λ b. c.first.ensures.by_index b ∙ simp c.direction.ensures
          (announce-first _ c.args.list.entries (view c.args.s.now) b c.if-n-eq0.false
          ∙ ap (λ (n : ℕ). go (announce_all (up_to n c.args.list.entries)) (view c.args.s.now) b)
          c.count-n.ensures);
      linked = c.first.ensures.linked;
    }
