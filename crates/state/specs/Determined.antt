-- The view and the suspended operation determine every byte: so storing what was loaded changes none. Assumes nothing.
use Rattle.std.specs.Prelude.{◌≡◌, ℕ, ◌<◌, ◌≤◌, List, length, slice_index}
use Rattle.std.proofs.Common.{sym, ap, ◌∙◌, ⊎_elim, arith, ext_get_or}
use Rattle.bits.specs.Bytes.{number}
use Rattle.bits.specs.Runs.{Same}
use Rattle.bits.specs.TablesLaws.{lt-or-ge}
use Rattle.bits.specs.Injective.{tells-number, tells-numbers, one-tells, table-tells}
use Rattle.regs.specs.declared.Dir.{Dir}
use Rattle.state.specs.Codec as codec
use Rattle.state.specs.Driver.{Driver, no_ep, no_request, ep_on, with_on}
use Rattle.state.specs.State.{ep_in, allocator_in, globals_in, request_in, control_in, saved_in, view, saved}
use Rattle.state.specs.Laws.{with_on-back}

-- a state's bytes
pub record Bytes (xs : List ℕ) : Type 0 where
  pub long : length xs ≡ 2999
  pub small : (i : ℕ) → slice_index xs i < 256

-- two runs in a row
meet : (xs ys : List ℕ) (a b c : ℕ) → Same xs ys a b → Same xs ys b c → Same xs ys a c
meet xs ys a b c p q i l m = ⊎_elim (λ (h : i < b). p i l h) (λ (h : b ≤ i). q i h m) (lt-or-ge i b)

pub determined : (xs ys : List ℕ) → Bytes xs → Bytes ys → view ys ≡ view xs → saved ys ≡ saved xs → ys ≡ xs
unfolding view saved
determined xs ys x y v s =
    let all : Same xs ys 0 2999 =
    meet xs ys 0 22 2999
    (one-tells xs ys x.small y.small saved_in 0 22
    (λ bs cs l m p q e. tells-numbers codec.saved_widths bs cs l m p q (ap codec.saved_as e)) s)
    (meet xs ys 22 40 2999
    (one-tells xs ys x.small y.small allocator_in 22 18
    (λ bs cs l m p q e. tells-numbers codec.allocator_widths bs cs l m p q (ap codec.allocator_as e))
    (ap (λ (d : Driver). d.allocator) v))
    (meet xs ys 40 1064 2999
    (table-tells xs ys x.small y.small ep_in 40 32 32 no_ep (omega arith)
    (λ bs cs l m p q e. tells-numbers codec.ep_widths bs cs l m p q (ap codec.ep_as e))
    (ap (λ (d : Driver). d.eps) v))
    (meet xs ys 1064 1320 2999
    (table-tells xs ys x.small y.small request_in 1064 32 8 no_request (omega arith)
    (λ bs cs l m p q e. tells-numbers codec.request_widths bs cs l m p q (ap codec.request_as e))
    (ap (λ (d : Driver). d.requests) v))
    (meet xs ys 1320 1357 2999
    (one-tells xs ys x.small y.small globals_in 1320 37
    (λ bs cs l m p q e. tells-numbers codec.globals_widths bs cs l m p q (ap codec.globals_as e))
    (ap (λ (d : Driver). d.globals) v))
    (meet xs ys 1357 1358 2999
    (one-tells xs ys x.small y.small number 1357 1 (tells-number 1) (ap (λ (d : Driver). d.wakes.count) v))
    (meet xs ys 1358 1422 2999
    (table-tells xs ys x.small y.small number 1358 64 1 0 (omega arith) (tells-number 1)
    (ap (λ (d : Driver). d.wakes.codes) v))
    (meet xs ys 1422 1454 2999
    (table-tells xs ys x.small y.small number 1422 16 2 0 (omega arith) (tells-number 2)
    (ap (λ (d : Driver). d.paced) v))
    (meet xs ys 1454 1966 2999
    (table-tells xs ys x.small y.small number 1454 256 2 0 (omega arith) (tells-number 2)
    (ap (λ (d : Driver). d.stamps) v))
    (meet xs ys 1966 2990 2999
    (table-tells xs ys x.small y.small number 1966 512 2 0 (omega arith) (tells-number 2)
    (ap (λ (d : Driver). d.lens) v))
    (one-tells xs ys x.small y.small control_in 2990 9
    (λ bs cs l m p q e. tells-numbers codec.control_widths bs cs l m p q (ap codec.control_as e))
    (ap (λ (d : Driver). d.control) v))))))))))) in
    ext_get_or 0 ys xs (y.long ∙ sym x.long) (λ i b. all i (omega arith) (omega (arith, y.long)))

-- an endpoint's record, stored as it was loaded; the other records likewise, by `put_back` (Laws.antt)
pub stored_back : (xs ys : List ℕ) (dir : Dir) (e : ℕ)
    → Bytes xs → Bytes ys → view ys ≡ with_on (view xs) dir e (ep_on (view xs) dir e) → saved ys ≡ saved xs → ys ≡ xs
stored_back xs ys dir e x y v s = determined xs ys x y (v ∙ with_on-back (view xs) dir e) s
