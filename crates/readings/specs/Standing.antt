-- The bytes of a state that stands at a point of the interrupt: as they were but for the 22 saved ones. What a call of
-- one access would have stored and one that brings several readings passes over
use Rattle.std.specs.Prelude.{◌≡◌, List, ℕ, ◌+◌, ◌*◌, ◌≤◌, length}
use Rattle.std.proofs.Math.Path.{ap}
use Rattle.std.proofs.Common.{◌∙◌, inr, arith}
use Rattle.bits.specs.Bytes.{gets, puts, number, bytes}
use Rattle.bits.specs.Runs.{Same, puts-same, gets-same, gets-puts}
use Rattle.bits.specs.Numbers.{numbers-bytes}
use Rattle.bits.specs.Tables.{table}
use Rattle.bits.specs.TablesLaws.{table_same}
use Rattle.regs.specs.declared.Access.{Access}
use Rattle.state.specs.declared.Saved.{Saved}
use Rattle.state.specs.Codec.{saved_widths, saved_as, saved_of}
use Rattle.state.specs.State.{ep_in, allocator_in, globals_in, request_in, control_in, saved_in, view, saved}
use Rattle.interrupt.specs.declared.Point.{Point}
use Rattle.interrupt.specs.Stands.{Stands}
use Rattle.interrupt.specs.Suspended as under
use Rattle.answer.specs.declared.Step.TheVariants as step
use Rattle.interrupt.specs.Suspended.{encode}
use Rattle.answer.specs.Word.{Encodes}

abbrev saved_bytes : Saved → List ℕ
saved_bytes c = bytes saved_widths (saved_as c)

unfoldable pub standing : List ℕ → Point → List ℕ
standing xs p = puts xs 0 0 (saved_bytes (encode (under.Interrupt p)))

module _ (xs : List ℕ) (c : Saved) where
  abbrev ys : List ℕ
  ys = puts xs 0 0 (saved_bytes c)

  above : (p q : ℕ) → 22 ≤ p → Same xs ys p q
  above p q h = puts-same xs 0 (saved_bytes c) p q (inr h)

  one : {A : Type 0} (f : List ℕ → A) (p n : ℕ) → 22 ≤ p → f (gets ys p 0 n) ≡ f (gets xs p 0 n)
  one f p n h = ap f (gets-same xs ys p n (above p (p + n) h))

  many : {A : Type 0} (f : List ℕ → A) (p n z : ℕ) → 22 ≤ p → table ys p n z f ≡ table xs p n z f
  many f p n z h = table_same f p n z xs ys (above p (p + n * z) h)

  view-stays : view ys ≡ view xs
  unfolding view
  view-stays = λ i. record {
    eps = many ep_in 40 32 32 (omega arith) i;
    lens = many number 1966 512 2 (omega arith) i;
    stamps = many number 1454 256 2 (omega arith) i;
    globals = one globals_in 1320 37 (omega arith) i;
    allocator = one allocator_in 22 18 (omega arith) i;
    paced = many number 1422 16 2 (omega arith) i;
    requests = many request_in 1064 32 8 (omega arith) i;
    control = one control_in 2990 9 (omega arith) i;
    wakes = record { count = one number 1357 1 (omega arith) i; codes = many number 1358 64 1 (omega arith) i };
  }

  saved-is : length xs ≡ 2999 → saved ys ≡ c
  unfolding saved
  saved-is long =
      ap saved_in (gets-puts xs 0 (saved_bytes c) (omega (arith, long)))
      ∙ ap saved_of (numbers-bytes saved_widths (saved_as c) tt)

-- it stands there: w, the word of its access, is the answer
pub stands : (xs : List ℕ) → length xs ≡ 2999 → (w : ℕ) (q : Access) (p : Point) → Encodes w (step.Asks q)
    → Stands w q p xs (standing xs p)
unfolding standing encode
stands xs long w q p says = record {
  answered = says;
  viewed = view-stays xs (encode (under.Interrupt p));
  stored = saved-is xs (encode (under.Interrupt p)) long;
}
