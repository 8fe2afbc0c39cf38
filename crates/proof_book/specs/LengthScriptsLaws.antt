-- The length with which a packet arrives, by the readings that the interrupt was brought: what each part of its script
-- makes of them, up to a call's next access or end
use Rattle.std.specs.Prelude.{Bool, true, false, cond, List, ◌≡◌, refl, ℕ, ◌%◌, min}
use Rattle.std.proofs.Common.{true≢false, ap, ap₂, subst, sym, ◌∙◌}
use Rattle.bits.specs.Bit.{bit_is_set}
use Rattle.regs.specs.declared.Access.{Access}
use Rattle.regs.specs.declared.Access.TheVariants.{Read, Receive}
use Rattle.regs.specs.declared.Reg.{Reg}
use Rattle.regs.specs.declared.Dir.TheVariants.{Out, In}
use Rattle.ring.specs.Marks.{marked_len}
use Rattle.ring.specs.Copies.{bytes_at}
use Rattle.script.specs.Tree as tree
use Rattle.script.specs.Tree.{ends, asks, bind_out}
use Rattle.script.specs.Cells.{EpCore, Cell, Val, globals-cell, control-cell, allocator-cell, ep-cell, request-cell}
use Rattle.script.specs.Cells.{paced_cell}
use Rattle.script.specs.Script.{Script, run, arrive}
use Rattle.script.specs.Statics.{is_on}
use Rattle.script.specs.Machine.{Buf}
use Rattle.proof_book.specs.Pages.{Packet, OutPage, Pages, with_out}
use Rattle.proof_book.specs.Book.{Bk, put_b, iso_of, receiving, arrived, packet_b, hand_b, merged_plain, book_ops}
use Rattle.proof_book.specs.FrameLaws.{at-elim, out-same}
use Rattle.proof_book.specs.Lengths.{Readings, bringing, length_of}
use Rattle.proof_book.specs.BookDecidesLaws.{Idle, idle, idle_then, puts, is_receive, number_in, no-receive}
use Rattle.proof_book.specs.QuietPartsLaws.{NoPacketArrives, q_ret, q_bind, q_test, q_read, q_write, q_wait}
use Rattle.proof_book.specs.QuietPartsLaws.{q_callback, q_get}
use Rattle.proof_book.specs.QuietPartsLaws.{q_put, q_is, q_look, q_fetch, q_complete, q_no_wakes, q_waken, q_send}

-- numbers count modulo 16
pub record Evens (I : ℕ → Bool) (M : ℕ → ℕ) : Type 0 where
  pub iso : (e f : ℕ) → e % 16 ≡ f % 16 → I e ≡ I f
  pub most : (e f : ℕ) → e % 16 ≡ f % 16 → M e ≡ M f

-- the isochronous OUT endpoints and the maxima, which an interrupt leaves
pub record Fixed (I : ℕ → Bool) (M : ℕ → ℕ) (t : Pages) : Type 0 where
  pub iso : (e : ℕ) → iso_of t Out e ≡ I e
  pub most : (e : ℕ) → (t.kept.plain Out e).max_len ≡ M e

module _ (I : ℕ → Bool) (M : ℕ → ℕ) where
  -- the bytes of the slot from x on that arrive on OUT e, by the readings h
  abbrev pub arriving_bytes : Readings → Buf → ℕ → ℕ → List ℕ
  arriving_bytes h b e x = bytes_at b x (min (length_of h e (marked_len b x (M e))) (M e))

  -- at a receive address of an isochronous OUT that is enabled: its page with a packet that has arrived, of that length
  pub record Measures (h : Readings) (s : Bk) (q : Access) (t : Bk) : Type 0 where
    pub page : (e x : ℕ) → q ≡ Receive e x → receiving s.0 e ≡ true → I e ≡ true
        → (k : Packet) × (k.bytes ≡ arriving_bytes h s.1 e (s.0.outs e).slot)
        × (t.0.outs e ≡ arrived (s.0.outs e) k)

  -- from s on, where h was read: so at each access; P of the answer and the readings at the end
  pub data Told {A : Type 0} (P : A → Readings → Type 0) : Readings → Bk → tree.Out Bk A → Type 0 where
    t_end : {h : Readings} {s : Bk} {a : A} {t : Bk} → Idle s t → Fixed I M t.0 → P a h → Told P h s (ends a t)
    t_ask : {h : Readings} {s : Bk} {q : Access} {t : Bk} {k : ℕ → Bk → tree.Out Bk A} → Measures h s q t
        → Fixed I M t.0
        → ((v : ℕ) (u : Bk) → Fixed I M u.0 → Told P (bringing q v h) u (k v u)) → Told P h s (asks q t k)

-- ---- composition

module _ {I : ℕ → Bool} {M : ℕ → ℕ} where
  measures-then : (h : Readings) (s t u : Bk) (q : Access) → Idle s t → Measures I M h t q u → Measures I M h s q u
  measures-then h s t u q i m = record {
    page = λ e x a r iso.
        let z = m.page e x a (ap (λ (n : ℕ). bit_is_set n (e % 16)) i.sets ∙ r) iso in (
          z.0,
          z.1 ∙ ap (λ (b : Buf). arriving_bytes I M h b e (t.0.outs e).slot) i.bytes
              ∙ ap (λ (p : OutPage). arriving_bytes I M h s.1 e p.slot) (i.outs e),
          z.2 ∙ ap (λ (p : OutPage). arrived p z.0) (i.outs e),
        );
  }

  pub told-from : {A : Type 0} {P : A → Readings → Type 0} {h : Readings} {s t : Bk} {o : tree.Out Bk A} → Idle s t
      → Told I M P h t o → Told I M P h s o
  told-from i (t_end j f p) = t_end (idle_then _ _ _ i j) f p
  told-from {h = h} {s = s} {t = t} i (t_ask {q = q} {t = u} m f k) = t_ask (measures-then h s t u q i m) f k

  pub told-bind : {A B : Type 0} {P : A → Readings → Type 0} {Q : B → Readings → Type 0} {h : Readings} {s : Bk}
      {o : tree.Out Bk A} {f : A → Bk
      → tree.Out Bk B}
      → Told I M P h s o → ((a : A) (t : Bk) (g : Readings) → Fixed I M t.0 → P a g → Told I M Q g t (f a t))
      → Told I M Q h s (bind_out o f)
  told-bind (t_end i f p) k = told-from i (k _ _ _ f p)
  told-bind (t_ask m f g) k = t_ask m f (λ v u x. told-bind (g v u x) k)

  pub told-cond : {A : Type 0} {P : A → Readings → Type 0} {h : Readings} {s : Bk} (b : Bool) {o u : tree.Out Bk A}
      → (b ≡ true → Told I M P h s o) → (b ≡ false → Told I M P h s u) → Told I M P h s (cond b o u)
  told-cond true x y = x refl
  told-cond false x y = y refl

  -- an access that is no receive address
  pub no-arrival : {h : Readings} {s t : Bk} {q : Access} → is_receive q ≡ false → Measures I M h s q t
  no-arrival h = record { page = λ e x a r i. no-receive h a }

  -- an arrival of that length
  pub measures : (f n : ℕ) (s : Bk) (h : Readings) → Fixed I M s.0
      → (I f ≡ true → n ≡ length_of h f (marked_len s.1 (s.0.outs f).slot (M f)))
      → Measures I M h s (Receive f 0) (hand_b (arrive f n) s).1
  measures f n s h k long = record {
    page = λ e x a r i.
        subst (λ (e : ℕ). receiving s.0 e ≡ true → I e ≡ true
        → (p : Packet) × (p.bytes ≡ arriving_bytes I M h s.1 e (s.0.outs e).slot)
        × ((hand_b (arrive f n) s).1.0.outs e ≡ arrived (s.0.outs e) p))
        (ap number_in a)
        (λ r i. (
          packet_b f n s,
          ap₂ (λ (n most : ℕ). bytes_at s.1 (s.0.outs f).slot (min n most)) (long i) (k.most f),
          by (receiving s.0 f) r,
        )) r i;
  }
    where
      by : (u : Bool) → u ≡ true → (cond u (with_out s.0 f (arrived (s.0.outs f) (packet_b f n s))) s.0).outs f
          ≡ arrived (s.0.outs f) (packet_b f n s)
      by true h = out-same s.0 f (arrived (s.0.outs f) (packet_b f n s))
      by false h = absurd (true≢false (sym h))

  pub arrive-fixed : (f n : ℕ) (s : Bk) → Fixed I M s.0 → Fixed I M (hand_b (arrive f n) s).1.0
  arrive-fixed f n s k = by (receiving s.0 f)
    where
      by : (u : Bool) → Fixed I M (cond u (with_out s.0 f (arrived (s.0.outs f) (packet_b f n s))) s.0)
      by true = record { iso = k.iso; most = k.most }
      by false = k

  -- ---- parts in which none arrives

  module _ (even : Evens I M) where
    puts-fixed : (c : Cell) (v : Val c) (s : Bk) → Fixed I M s.0 → Fixed I M (put_b c v s).0
    puts-fixed globals-cell v s k = record { iso = k.iso; most = k.most }
    puts-fixed control-cell v s k = record { iso = k.iso; most = k.most }
    puts-fixed allocator-cell v s k = k
    puts-fixed (ep-cell Out f) v s k =
        let p : EpCore = merged_plain (s.0.kept.plain Out f) v in
        record {
          iso = λ e. at-elim (λ (p : EpCore). is_on p.iso ≡ I e) f e p (s.0.kept.plain Out)
              (λ h. k.iso f ∙ even.iso f e (sym h)) (λ _. k.iso e);
          most = λ e. at-elim (λ (p : EpCore). p.max_len ≡ M e) f e p (s.0.kept.plain Out)
              (λ h. k.most f ∙ even.most f e (sym h)) (λ _. k.most e);
        }
    puts-fixed (ep-cell In f) v s k = record { iso = k.iso; most = k.most }
    puts-fixed (request-cell d f) v s k = record { iso = k.iso; most = k.most }
    puts-fixed (paced_cell f) v s k = record { iso = k.iso; most = k.most }

    -- G of the readings stays
    module _ {reads : Reg → Bool} {G : Readings → Type 0}
        (stable : (r : Reg) (e v : ℕ) (h : Readings) → reads r ≡ true → G h → G (bringing (Read r e) v h)) where
      pub quiet_run : {A : Type 0} {p : Script true A} → NoPacketArrives reads A p → (s : Bk) (h : Readings)
          → Fixed I M s.0 → G h
          → Told I M (λ a g. G g) h s (run book_ops p s)
      quiet_run q_ret s h k g = t_end idle k g
      quiet_run (q_bind x y) s h k g = told-bind (quiet_run x s h k g) (λ a t i l j. quiet_run (y a) t i l j)
      quiet_run (q_test {b = true} x y) s h k g = quiet_run x s h k g
      quiet_run (q_test {b = false} x y) s h k g = quiet_run y s h k g
      quiet_run (q_read {r = r} {e = e} u x) s h k g = t_ask (no-arrival refl) k
          (λ v t l. quiet_run (x v) t (bringing (Read r e) v h) l (stable r e v h u g))
      quiet_run (q_write x) s h k g = t_ask (no-arrival refl) k (λ v t l. quiet_run x t h l g)
      quiet_run (q_wait x) s h k g = t_ask (no-arrival refl) k (λ v t l. quiet_run x t h l g)
      quiet_run (q_callback x) s h k g = t_ask (no-arrival refl) k (λ v t l. quiet_run x t h l g)
      quiet_run (q_get x) s h k g = quiet_run (x _) s h k g
      quiet_run (q_put {c = c} {v = v} x) s h k g = told-from (puts c v s)
          (quiet_run x (put_b c v s) h (puts-fixed c v s k) g)
      quiet_run (q_is x) s h k g = quiet_run (x _) s h k g
      quiet_run (q_look x) s h k g = quiet_run (x _) s h k g
      quiet_run (q_fetch x) s h k g = quiet_run (x _) s h k g
      quiet_run (q_complete x) s h k g =
          told-from (record { outs = λ e. refl; sets = refl; bytes = refl })
          (quiet_run x _ h (record { iso = k.iso; most = k.most }) g)
      quiet_run (q_no_wakes x) s h k g =
          told-from (record { outs = λ e. refl; sets = refl; bytes = refl })
          (quiet_run x _ h (record { iso = k.iso; most = k.most }) g)
      quiet_run (q_waken x) s h k g =
          told-from (record { outs = λ e. refl; sets = refl; bytes = refl })
          (quiet_run x _ h (record { iso = k.iso; most = k.most }) g)
      quiet_run (q_send x) s h k g =
          t_ask (no-arrival refl) (record { iso = k.iso; most = k.most }) (λ v t l. quiet_run x t h l g)
