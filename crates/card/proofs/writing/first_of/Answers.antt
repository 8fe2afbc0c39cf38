use Rattle.std.proofs.Common.{ℕ, ◌+◌, sym, ap, ◌∙◌, arith}
use Rattle.card.specs.Pieces.{first-under-way, first-named, first-here, first-full}
use Rattle.card.proofs.writing.first_of.Goals as goal

pub returns-then-done_of-ne0 : goal.returns-then-done_of-ne0
returns-then-done_of-ne0 c =
    first-under-way c.args.w c.args.n (λ e. c.if-done_of-ne0.true (c.done_of.ensures ∙ e))

pub returns-then-w-ne65535 : goal.returns-then-w-ne65535
returns-then-w-ne65535 c =
    first-named c.args.w c.args.n (sym c.done_of.ensures ∙ c.if-done_of-ne0.false) c.if-w-ne65535.true

pub returns-then-used-lt504 : goal.returns-then-used-lt504
returns-then-used-lt504 c =
    ap (λ (u : ℕ). 6 + u) c.used_of-used.ensures ∙ first-here c.args.w c.args.n (sym c.done_of.ensures ∙ c.if-done_of-ne0.false)
    c.if-w-ne65535.false (omega (arith, c.used_of-used.ensures))

pub returns : goal.returns
returns c =
    first-full c.args.w c.args.n (sym c.done_of.ensures ∙ c.if-done_of-ne0.false) c.if-w-ne65535.false (omega (arith, c.used_of-used.ensures))
