-- The interrupt until it has read the frame: what the status shows then
use Rattle.std.specs.Prelude.{Bool, true, false, cond, ◌&&◌, ◌||◌, ◌≡◌, eqb}
use Rattle.std.proofs.Math.Bool.{not, and-true, and-false}
use Rattle.std.proofs.Math.Path.{refl}
use Rattle.std.proofs.Common.{ap, subst, sym, ◌∙◌, eqb-true}
use Prim.Native.Nat.{ℕ, zero, suc}
use Rattle.regs.specs.declared.Access.TheVariants.{Read}
use Rattle.regs.specs.declared.Reg.{Reg}
use Rattle.regs.specs.declared.Reg.TheVariants.{IntFg, RxLen, FrameNo}
use Rattle.regs.specs.declared.Dir.{Dir}
use Rattle.regs.specs.declared.Dir.TheVariants.{Out, In}
use Rattle.regs.specs.declared.Token.{Token}
use Rattle.regs.specs.declared.Token.TheVariants as tok
use Rattle.regs.specs.Flags.{transfer}
use Rattle.regs.specs.MisStatus.{sie_free}
use Rattle.regs.specs.Status.{endpoint, token, out_token, in_token, is_out, is_in}
use Rattle.state.specs.Driver.{key, ep_on}
use Rattle.script.specs.declared.Transfer.{Transfer}
use Rattle.script.specs.Cells.{EpCore, ep-cell}
use Rattle.script.specs.Script.{Script, read_then, run}
use Rattle.script.specs.Statics.{is_on}
use Rattle.script.specs.Every.{same_reg}
use Rattle.script.specs.Handler.{looks, nak_non_iso, settle, waits_for_iso, waits_for_bulk, iso_for}
use Rattle.script_ops.specs.Rings.{St}
use Rattle.script_ops.specs.Concrete.{concrete}
use Rattle.proof_usb20.specs.ExemptLaws.{differ}
use Rattle.proof_usb20.proofs.FittingLaws.{both}
use Rattle.proof_usb20.specs.Sequence.{Track, shows, again, with_phase, own, mine, token_for, saw}
use Rattle.proof_usb20.specs.FollowLaws as follow
use Rattle.proof_usb20.specs.Follow as following
use Rattle.proof_usb20.specs.Follow.{EpSeen, view, Follow}
use Rattle.proof_usb20.specs.Watch.{at_end, at_ask}
use Rattle.proof_usb20.specs.CalmLaws.{Else, CalmKept, Hears, kept_by, hears_same, hears_then, LeavesTrack}
use Rattle.proof_usb20.specs.CalmLaws.{q_bind, q_got, q_read, q_ret, q_test, q_when}
use Rattle.proof_usb20.specs.CalmLaws.{q_write}
use Rattle.proof_usb20.specs.ReadingLaws.{Own, own-true, got}
use Rattle.proof_usb20.proofs.JudgingLaws.{back}

-- a token of a direction's: one of two
by_token : (d : Dir) (t : Token) → token_for d t ≡ true → (P : Dir → Token → Type 0) → (d ≡ Out → P Out tok.Out)
    → (d ≡ In → P In tok.In) → P d t
by_token Out tok.Out h P o i = o refl
by_token In tok.In h P o i = i refl
by_token Out tok.In h P o i = differ h
by_token Out tok.Sof h P o i = differ h
by_token Out tok.Setup h P o i = differ h
by_token In tok.Out h P o i = differ h
by_token In tok.Sof h P o i = differ h
by_token In tok.Setup h P o i = differ h

module _ (D : Dir) (E : ℕ) where
  -- the phase in which the status is known: control words and the bus's state tell the log nothing
  abbrev pub ReadingsTellNothing : Track → Type 0
  ReadingsTellNothing w = (r : Reg) (e v : ℕ) → same_reg r RxLen ≡ false → same_reg r IntFg ≡ false → same_reg r FrameNo
      ≡ false → saw D E w (Read r e) v ≡ w

  pub deaf : (st n : ℕ) (w : Track) → ReadingsTellNothing (with_phase (shows st n) w)
  deaf st n w r e v p q f = rw (p, q, f) refl

  deaf-read : {i : Bool} {A : Type 0} {r : Reg} {e : ℕ} {f : ℕ → Script i A} → same_reg r RxLen ≡ false
      → same_reg r IntFg ≡ false → same_reg r FrameNo ≡ false → ((v : ℕ) → LeavesTrack D E true ReadingsTellNothing (f v))
      → LeavesTrack D E true ReadingsTellNothing (read_then r e f)
  deaf-read {r = r} {e = e} p q g x = (q_read D E) (λ w z v. z r e v p q g) x

  pub q-nak : {i : Bool} (st : ℕ) → LeavesTrack D E true ReadingsTellNothing (nak_non_iso {i = i} st)
  q-nak st = (q_bind D E) ((q_got D E) (ep-cell Out (endpoint st)))
      (λ o. (q_bind D E) ((q_got D E) (ep-cell In (endpoint st))) (λ n. (q_test D E)
      ((q_bind D E) (deaf-read refl refl refl (λ _. (q_ret D E))) (λ v. (q_write D E) (q_ret D E)))
      ((q_when D E) ((q_bind D E) (deaf-read refl refl refl (λ _. (q_ret D E))) (λ v. (q_write D E) (q_ret D E))))))

  q-waits : {i : Bool} (n : ℕ) → LeavesTrack D E true ReadingsTellNothing (looks {i = i} n)
  unfolding looks
  q-waits zero = (q_ret D E)
  q-waits (suc n) = (q_bind D E) (deaf-read refl refl refl (λ _. (q_ret D E)))
      (λ _. (q_test D E) (q_ret D E) (q-waits n))

  -- ---- the transfer settles

  -- the log then; of a token of the endpoint, the length and that the bus is free
  pub record Settled (s : St) (w : Track) (v : EpSeen) (l : Track) (y : Transfer) (t : St) : Type 0 where
    pub len : ℕ
    pub log : l ≡ with_phase (shows y.st len) w
    pub its : mine D E y.st ≡ true → (len ≡ y.len) × (y.busy ≡ false)
    pub view : view D E t.0 ≡ v
    pub kept : CalmKept D E true t
    pub hears : Hears D E true s t

  -- a token of the endpoint: the endpoint's record says that it is not isochronous
  module _ (s : St) (i : is_on (ep_on s.0 D E).iso ≡ false) (z : (d : Dir) → Else D E d 0) (st : ℕ)
      (h : mine D E st ≡ true) where
    abbrev pub O : EpCore
    O = concrete.get (ep-cell Out (endpoint st)) s

    abbrev pub N : EpCore
    N = concrete.get (ep-cell In (endpoint st)) s

    pub its_own_lem : Own D E D (endpoint st)
    its_own_lem = own-true D E D (endpoint st) (both (token_for D (token st)) (own D E D (endpoint st)) h).1

    pub its_token : token_for D (token st) ≡ true
    its_token = (both (token_for D (token st)) (own D E D (endpoint st)) h).0

    plain : (d : Dir) → D ≡ d → is_on (concrete.get (ep-cell d (endpoint st)) s).iso ≡ false
    plain d g = ap (λ (p : EpCore). is_on p.iso) (got D E d (endpoint st) s
        (subst (λ (x : Dir). key x (endpoint st) ≡ key D E) g its_own_lem)) ∙ i

    pub not_zero : eqb (endpoint st) 0 ≡ false
    not_zero = by (eqb (endpoint st) 0) refl
      where
        by : (b : Bool) → eqb (endpoint st) 0 ≡ b → b ≡ false
        by false q = refl
        by true q = absurd (z D (sym (ap (λ n. key D n) (sym (eqb-true (endpoint st) 0 q)) ∙ its_own_lem)))

    pub not_iso : iso_for (token st) O N ≡ false
    unfolding iso_for
    not_iso = by_token D (token st) its_token (λ _ t. iso_for t O N ≡ false) (λ g. plain Out g) (λ g. plain In g)

    pub no_iso_wait : (x : Transfer) → x.st ≡ st → waits_for_iso x O ≡ false
    unfolding waits_for_iso is_out
    no_iso_wait x e = rw e
        (by_token D (token st) its_token (λ _ t. x.busy && (out_token t && is_on O.iso) ≡ false)
        (λ g. rw (plain Out g) (and-false x.busy)) (λ g. and-false x.busy))

    pub bulk_wait : (x : Transfer) → x.st ≡ st → waits_for_bulk x N ≡ x.busy
    unfolding waits_for_bulk is_out is_in
    bulk_wait x e = rw (e, not_zero)
        (by_token D (token st) its_token (λ _ t. x.busy && (out_token t || (in_token t && not (is_on N.iso)))
        ≡ x.busy)
        (λ g. and-true x.busy) (λ g. rw (plain In g) (and-true x.busy)))

  module _ (z : (d : Dir) → Else D E d 0) where
    -- an answer of a wait that a token of the endpoint would not give
    not_mine : {A : Type 0} (s : St) → is_on (ep_on s.0 D E).iso ≡ false → (x : Transfer)
        → waits_for_bulk x (concrete.get (ep-cell In (endpoint x.st)) s) ≡ false → x.busy ≡ true
        → mine D E x.st ≡ true → A
    not_mine s i x q b h = differ (sym q ∙ (bulk_wait s i z x.st h x refl ∙ b))

    not_mine_iso : {A : Type 0} (s : St) → is_on (ep_on s.0 D E).iso ≡ false → (x : Transfer)
        → waits_for_iso x (concrete.get (ep-cell Out (endpoint x.st)) s) ≡ true → mine D E x.st ≡ true → A
    not_mine_iso s i x q h = differ (sym (no_iso_wait s i z x.st h x refl) ∙ q)

    -- after one access more
    after : (s a t : St) → Hears D E true s a → following.Between D E a t → Hears D E true s t
    after s a t h p = hears_then D E h (hears_same D E {s = a} {t = t} p.2)

    abbrev same : (s : St) → Hears D E true s s
    same s = hears_same D E {s = s} {t = s} refl

    pub settles : (w : Track) (s : St) (x : Transfer) → is_on (ep_on s.0 D E).iso ≡ false → CalmKept D E true s
        → Follow D E (λ l y t. Settled s w (view D E s.0) l y t) (with_phase (shows x.st x.len) w)
        (run concrete (settle {i = true} x) s)
    settles w s x i k = follow.follow-cond D E (waits_for_iso x (concrete.get (ep-cell Out (endpoint x.st)) s))
        (λ q. follow.follow-bind D E ((q-waits 2001).goes (with_phase (shows x.st x.len) w) s
        (deaf x.st x.len w, λ _ _ _ _. refl) k)
        (λ y _ a m. back D E m.0 (at_ask tt (λ now b _ p. at_ask tt (λ n c _ r.
        at_end (record {
          len = cond (eqb n 0) x.len n;
          log = refl;
          its = λ h. not_mine_iso s i x q h;
          view = r.0 ∙ (p.0 ∙ m.1);
          kept = kept_by D E {s = b} {t = c} r (kept_by D E {s = a} {t = b} p m.2);
          hears = after s b c (after s a b m.3 p) r;
        }))))))
        (λ _. follow.follow-cond D E (waits_for_bulk x (concrete.get (ep-cell In (endpoint x.st)) s))
        (λ _. follow.follow-bind D E ((q-waits 2001).goes (with_phase (shows x.st x.len) w) s
        (deaf x.st x.len w, λ _ _ _ _. refl) k)
        (λ y _ a m. back D E m.0 (at_ask tt (λ n c _ r.
        at_end (record {
          len = cond (eqb n 0) x.len n;
          log = refl;
          its = λ _. (refl, refl);
          view = r.0 ∙ m.1;
          kept = kept_by D E {s = a} {t = c} r m.2;
          hears = after s a c m.3 r;
        })))))
        (λ q. follow.follow-cond D E x.busy
        (λ b. at_ask tt (λ m a _ p. follow.follow-cond D E (sie_free m)
        (λ _. at_ask tt (λ f c _ r.
        let ka = kept_by D E {s = s} {t = a} p k in
        let kc = kept_by D E {s = a} {t = c} r ka in
        let hc = after s a c (after s s a (same s) p) r in
        follow.follow-cond D E (transfer f)
        (λ t. back D E (kept f w t) (at_end (record {
          len = x.len;
          log = refl;
          its = λ h. not_mine s i x q b h;
          view
              = r.0 ∙ p.0;
          kept = kc;
          hears = hc;
        })))
        (λ t. back D E (taken f w t)
        (at_ask tt (λ st e _ g. follow.follow-bind D E ((q-nak {i = true} st).goes (with_phase (shows st x.len) w) e (
          deaf st x.len w,
          λ _ _ _ _. refl,
        ) (kept_by D E {s = c} {t = e} g kc)) (λ y _ u n.
        at_end (record {
          len = x.len;
          log = n.0;
          its = λ _. (refl, refl);
          view = n.1 ∙ (g.0 ∙ (r.0 ∙ p.0));
          kept = n.2;
          hears = hears_then D E (after s c e hc g) n.3;
        })))))))
        (λ _. at_end (record {
          len = x.len;
          log = refl;
          its = λ h. not_mine s i x q b h;
          view = p.0;
          kept = kept_by D E {s = s} {t = a} p k;
          hears = after s s a (same s) p;
        }))))
        (λ b. at_end (record {
          len = x.len;
          log = refl;
          its = λ _. (refl, b);
          view = refl;
          kept = k;
          hears
              = same s;
        }))))
      where
        kept : (f : ℕ) (w : Track) → transfer f ≡ true
            → saw D E (with_phase (shows x.st x.len) w) (Read IntFg 0) f ≡ with_phase (shows x.st x.len) w
        kept f w t = rw t refl

        taken : (f : ℕ) (w : Track) → transfer f ≡ false
            → saw D E (with_phase (shows x.st x.len) w) (Read IntFg 0) f ≡ with_phase (again x.len) w
        taken f w t = rw t refl
