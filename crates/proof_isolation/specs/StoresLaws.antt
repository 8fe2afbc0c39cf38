-- Laws on the definitions of Stores.antt
use Rattle.std.specs.Prelude.{true, ◌≡◌, refl, ◌%◌}
use Rattle.std.proofs.Common.{inl, inr, ⊎_elim, ap, sym, ◌∙◌, arith}
use Rattle.bits.specs.Bit.{bit_is_set}
use Rattle.regs.specs.declared.Dir.TheVariants.{Out}
use Rattle.state.specs.declared.Allocator.{Allocator}
use Rattle.state.specs.declared.Globals.{Globals}
use Rattle.state.specs.Driver.{Driver}
use Rattle.alloc.specs.Alloc.{allocated_ins}
use Rattle.script.specs.Simulates.{Phase}
use Rattle.script.specs.Machine.{Buf}
use Rattle.script_ops.specs.Rings.{St}
use Rattle.proof_book.specs.Pages.{Pages}
use Rattle.proof_book.specs.Coupling.{Coupling, Chip}
use Rattle.proof_book.specs.ChipsLaws.{chip}
use Rattle.proof_isolation.specs.EqualExcept.{Lawful, Channel, LowEquiv, Touched}
use Rattle.proof_isolation.specs.LikesLaws.{but-refl}
use Rattle.proof_isolation.specs.Stores.{Stored, StoredAlike, OwnLent}

-- lent as it was left, no call is shut out
stored-none : (d : Driver) (b : Buf) → Stored d b b
stored-none d b = record { long = refl; others = λ k w. refl }

pub lent_back : (c : Channel) (s t : St) → StoredAlike c s t s.1 t.1
lent_back c s t = record { left = stored-none s.0 s.1; right = stored-none t.0 t.1; same = λ k o e. e }

pub own-lent-back : (c : Channel) (s : St) → OwnLent c s s.1
own-lent-back c s = record { stored = stored-none s.0 s.1; own = λ k o. refl }

-- ---- these leave two states the same but for the channel's data

by-book : {φ : Phase} {d : Driver} {b b' : Buf} {p : Pages} → Coupling φ b d p → d.globals.stage ≡ 2 → Stored d b b'
    → Chip p b b'
by-book {d = d} {p = p} R g h = record {
  long = h.long;
  others = λ k w. h.others k (record {
    outs = λ e u.
        let z : bit_is_set (allocated_ins p.kept.allocator Out) (e % 16)
        ≡ true = sym (ap (λ (a : Allocator). bit_is_set (allocated_ins a Out) (e % 16)) R.same.allocator) ∙ u in
        let s : d.allocator.size ≡ p.kept.allocator.size = ap (λ (a : Allocator). a.size) R.same.allocator in
        ⊎_elim (λ y. inl (omega (arith, (R.outs e).slot))) (λ y. inr (omega (arith, (R.outs e).slot, s))) (w.outs e z);
    ep0 =
        let z : p.kept.globals.stage ≡ 2 = sym (ap (λ (g : Globals). g.stage) R.same.globals) ∙ g in
        let a : d.globals.ep0_buf ≡ p.kept.globals.ep0_buf
        = ap (λ (g : Globals). g.ep0_buf) R.same.globals in
        let s : d.allocator.size ≡ p.kept.allocator.size = ap (λ (a : Allocator). a.size) R.same.allocator in
        ⊎_elim (λ y. inl (omega (arith, a))) (λ y. inr (omega (arith, a, s))) (w.ep0 z);
  });
}

pub lawful-stored : (c : Channel) {φ : Phase} {s : St} {b : Buf} → Lawful c.iso φ s → Stored s.0 s.1 b
    → Lawful c.iso φ (s.0, b)
lawful-stored c {φ} {s} {b} l h = record {
  pages = l.pages;
  rest = chip s.1 b φ s.0 l.pages l.rest (by-book l.rest l.stage h);
  has = l.has;
  stage = l.stage;
  bounded = l.bounded;
}

module _ {c : Channel} {φ : Phase} where
  pub lent-like : {s t : St} {b b' : Buf} → LowEquiv c φ s t → StoredAlike c s t b b'
      → LowEquiv c φ (s.0, b) (t.0, b')
  lent-like {s} {t} {b} {b'} l h = record {
    left = lawful-stored c l.left h.left;
    right = lawful-stored c l.right h.right;
    but = l.but;
    bytes = record {
      long = h.right.long ∙ l.bytes.long ∙ sym h.left.long;
      below = λ k z. h.same k (inl z) (l.bytes.below k z);
      above = λ k z. h.same k (inr z) (l.bytes.above k z);
    };
  }

  pub own_like : {s : St} {b : Buf} → Lawful c.iso φ s → OwnLent c s b → Touched c φ s (s.0, b)
  own_like {s} {b} l h = record {
    left = l;
    right = lawful-stored c l h.stored;
    but = but-refl c.number s.0;
    bytes = record { long = h.stored.long; below = λ k z. h.own k (inl z); above = λ k z. h.own k (inr z) };
  }
