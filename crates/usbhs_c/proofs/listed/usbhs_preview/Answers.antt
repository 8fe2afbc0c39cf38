use mathlib.Core.Path.{ap, sym, ◌∙◌}
use Prim.Native.Nat.{◌+◌, ◌*◌, ◌%◌, ◌^◌}
use Rattle.descriptor.specs.declared.preview.Shown.{Shown}
use borrow.Author.Rules.{rules}
use Rattle.usbhs_c.proofs.listed.usbhs_preview.Goals as goal

pub enum_told-1 : goal.enum_told-1
enum_told-1 c = search rules

pub returns-in-Refused : goal.returns-in-Refused
returns-in-Refused c =
    let e = ap (λ (x : Shown). x.said) (sym c.preview-x.ensures) ∙ c.in-Refused.is in
    record {
      value = rw e;
      numbers_after = rw e;
      buffers_after = rw e;
      refusal_after = rw e;
    }

pub returns-in-Tried : goal.returns-in-Tried
returns-in-Tried c =
    let e = ap (λ (x : Shown). x.said) (sym c.preview-x.ensures) ∙ c.in-Tried.is in
    record {
      value = rw e (ap (λ (x : Shown). 5 + x.count % 256 * 2 ^ 8) c.preview-x.ensures);
      numbers_after = rw e (ap (λ (x : Shown). x.numbers) c.preview-x.ensures);
      buffers_after = rw e (ap (λ (x : Shown). x.buffers) c.preview-x.ensures);
      refusal_after = rw e
          (ap (λ (x : Shown). x.refusal) c.preview-x.ensures);
    }
