use mathlib.Core.Path.{◌≡◌, sym, ap, ◌∙◌}
use mathlib.Core.List.{List}
use Prim.Native.Nat.{ℕ, ◌<◌}
use native.Mathlib.Omega.{arith}
use lib.ListN.{get_or}
use Rattle.descriptor.specs.declared.Endpoint.{Endpoint}
use Rattle.descriptor.specs.declared.Endpoints.{Endpoints}
use Rattle.descriptor.specs.declared.Reading.{Reading}
use Rattle.descriptor.specs.Reading.{list_of}
use Rattle.descriptor.specs.Writing.{stored}
use Rattle.descriptor.specs.ReadBackLaws.{accepted, stored_of_lem}
use Rattle.descriptor.specs.declared.preview.Trial.{Trial}
use Rattle.descriptor.specs.Trial.{trial_of}
use Rattle.descriptor.specs.Preview.{shown, shown_of}
use Rattle.descriptor.proofs.preview.preview.Goals as goal

pub returns-in-Refused : goal.returns-in-Refused
unfolding shown_of
returns-in-Refused c =
    let e = ap (λ (x : Reading). x.answer) (sym c.read-r.ensures) ∙ c.in-Refused.is in
    c.refused.ensures ∙ rw e

pub returns-in-Listed : goal.returns-in-Listed
unfolding shown_of
returns-in-Listed c =
    let b : (j : ℕ) → get_or c.args.bytes.now j 0 < 256 = λ j. omega (arith, c.shared_slice_known-1.given j) in
    let e = ap (λ (x : Reading). x.answer) (sym c.read-r.ensures) ∙ c.in-Listed.is in
    let l = accepted c.args.bytes.now b e in
    let w : stored c.read-r.result.list ≡ list_of c.args.bytes.now =
    ap (λ (x : Reading). stored x.list) c.read-r.ensures ∙ ap (λ (x : Endpoints). stored x) l.list
    ∙ stored_of_lem (list_of c.args.bytes.now) l.good in
    let t : c.try_all-t.result ≡ trial_of c.args.a (list_of c.args.bytes.now) = c.try_all-t.ensures
    ∙ ap (λ (es : List Endpoint). trial_of c.args.a es) w in
    rw e (ap (λ (x : Trial). shown x) t)
