use mathlib.Core.Path.{◌≡◌, sym, ap, ◌∙◌}
use mathlib.Core.Bool.{true, false}
use mathlib.Core.List.{List}
use Rattle.descriptor.specs.declared.Endpoint.{Endpoint}
use Rattle.descriptor.specs.Endpoints.{listed, agree}
use Rattle.descriptor.specs.Reading.{endpoints, list_of, reading_of}
use Rattle.descriptor.specs.ListsLaws.{listed_of}
use Rattle.descriptor.specs.Types.{two-in-first, two-in-others, one_each}
use Rattle.descriptor.proofs.read.Goals as goal

pub returns-then-not-is_configuration : goal.returns-then-not-is_configuration
unfolding reading_of
returns-then-not-is_configuration c =
    let h = sym c.is_configuration.ensures ∙ c.if-not-is_configuration.true in
    c.refused.ensures ∙ rw h

pub gathered-list-requires : goal.gathered-list-requires
gathered-list-requires c = sym c.is_configuration.ensures ∙ c.if-not-is_configuration.false

pub agree-requires : goal.agree-requires
agree-requires c =
    record {
      bytes_value = sym c.is_configuration.ensures ∙ c.if-not-is_configuration.false;
      tidy = c.gathered-list.ensures.tidy;
    }

pub returns-then-not-agree : goal.returns-then-not-agree
unfolding reading_of
returns-then-not-agree c =
    let h = sym c.is_configuration.ensures ∙ c.if-not-is_configuration.false in
    let l : listed c.gathered-list.result ≡ list_of c.args.bytes.now = rw c.gathered-list.ensures.value (listed_of (list_of c.args.bytes.now)) in
    let a = ap (λ (x : List Endpoint). agree x (endpoints true c.args.bytes.now)) (sym l) ∙ sym c.agree.ensures
    ∙ c.if-not-agree.true in
    c.refused-then-not-agree.ensures ∙ rw (h, two-in-first c.args.bytes.now a)

pub agree-requires-2 : goal.agree-requires-2
agree-requires-2 c =
    record {
      bytes_value = sym c.is_configuration.ensures ∙ c.if-not-is_configuration.false;
      tidy = c.gathered-list.ensures.tidy;
    }

pub returns-then-not-agree-2 : goal.returns-then-not-agree-2
unfolding reading_of
returns-then-not-agree-2 c =
    let h = sym c.is_configuration.ensures ∙ c.if-not-is_configuration.false in
    let l : listed c.gathered-list.result ≡ list_of c.args.bytes.now = rw c.gathered-list.ensures.value (listed_of (list_of c.args.bytes.now)) in
    let a = ap (λ (x : List Endpoint). agree x (endpoints true c.args.bytes.now)) (sym l)
    ∙ sym c.agree.ensures ∙ c.if-not-agree.false in
    let b = ap (λ (x : List Endpoint). agree x (endpoints false c.args.bytes.now)) (sym l) ∙ sym c.agree-2.ensures
    ∙ c.if-not-agree-2.true in
    c.refused-then-not-agree-2.ensures ∙ rw (h, two-in-others c.args.bytes.now a b)

pub returns : goal.returns
unfolding reading_of
returns c =
    let h = sym c.is_configuration.ensures ∙ c.if-not-is_configuration.false in
    let l : listed c.gathered-list.result ≡ list_of c.args.bytes.now = rw c.gathered-list.ensures.value (listed_of (list_of c.args.bytes.now)) in
    let a = ap (λ (x : List Endpoint). agree x (endpoints true c.args.bytes.now)) (sym l)
    ∙ sym c.agree.ensures ∙ c.if-not-agree.false in
    let b = ap (λ (x : List Endpoint). agree x (endpoints false c.args.bytes.now)) (sym l) ∙ sym c.agree-2.ensures
    ∙ c.if-not-agree-2.false in
    rw (h, one_each c.args.bytes.now a b, c.gathered-list.ensures.value)
