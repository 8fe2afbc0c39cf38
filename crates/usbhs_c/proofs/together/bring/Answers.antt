use mathlib.Core.Path.{sym, ◌∙◌}
use mathlib.Core.List.{[], ◌∷◌}
use Rattle.readings.specs.Readings.{reading, lent}
use Rattle.usbhs_c.specs.ReadingsLaws.{continued, brought, not-brought, last-brought}
use Rattle.usbhs_c.proofs.together.bring.Goals as goal

pub returns-then-next-read_word : goal.returns-then-next-read_word
returns-then-next-read_word c x says =
    let l = lent c.args.s.now c.args.slots.now c.args.time.now in
    let yes = c.if-word-read_word.true ∙ c.read_word.ensures in
    let next = c.if-next-read_word.true ∙ c.read_word-then-word-read_word.ensures in
    brought c.args.driver c.args.first c.args.a (reading c.args.second c.args.b ∷ []) c.args.word x says yes _ _ l (lent _ _ _)
    (lent _ _ _)
    (continued _ c.args.driver c.args.a l (lent _ _ _) c.go_on-next.ensures)
    (λ y says'. last-brought c.args.driver c.args.second c.args.b _ y says' next _ (lent _ _ _) (lent _ _ _)
    (continued _ c.args.driver c.args.b (lent _ _ _) (lent _ _ _) c.go_on.ensures))

pub returns-then-word-read_word : goal.returns-then-word-read_word
returns-then-word-read_word c x says =
    let l = lent c.args.s.now c.args.slots.now c.args.time.now in
    let yes = c.if-word-read_word.true ∙ c.read_word.ensures in
    brought c.args.driver c.args.first c.args.a (reading c.args.second c.args.b ∷ []) c.args.word x says yes _ _ l (lent _ _ _)
    (lent _ _ _)
    (continued _ c.args.driver c.args.a l (lent _ _ _) c.go_on-next.ensures)
    (λ y says'. not-brought c.args.driver c.args.second c.args.b [] _ y says' (lent _ _ _) (λ e. c.if-next-read_word.false (e ∙ sym c.read_word-then-word-read_word.ensures)))

pub returns : goal.returns
returns c x says =
    not-brought c.args.driver c.args.first c.args.a (reading c.args.second c.args.b ∷ []) c.args.word x says
    (lent c.args.s.now c.args.slots.now c.args.time.now)
    (λ e. c.if-word-read_word.false (e ∙ sym c.read_word.ensures))
