-- The bus' poll (mod.rs 1229-1266): power, a reset of every endpoint's record, suspend and resume
use Rattle.std.specs.Prelude.{false}
use Rattle.std.proofs.Math.Path.{refl}
use Rattle.std.proofs.Common.{ap, arith}
use Prim.Native.Nat.{ℕ, zero, suc}
use Rattle.regs.specs.declared.Reg.TheVariants.{IntFg, MisSt, DevAd, EpRxCtrl, EpTxCtrl}
use Rattle.regs.specs.declared.Dir.{Dir}
use Rattle.regs.specs.declared.Dir.TheVariants.{Out, In}
use Rattle.state.specs.declared.EpState.{EpState}
use Rattle.state.specs.declared.Globals.{Globals}
use Rattle.state.specs.Ep.{reset_of}
use Rattle.state.specs.Fresh.{no_stamps}
use Rattle.state.specs.Kept.{with_ep_config, with_ep_type}
use Rattle.state.specs.Driver.{Driver, ep_on, with_on, stamp_on, request_on}
use Rattle.state.specs.Laws.{Sized}
use Rattle.ring.specs.Waiting.{SamePlace}
use Rattle.ring.specs.Laws.{place-trans}
use Rattle.script.specs.Script.{bus_reset_lem}
use Rattle.script.specs.Statics.{renewed, with_setup}
use Rattle.script.specs.Bus as bus
use Rattle.script.specs.Simulates.{quiet, mid}
use Rattle.script_ops.specs.Rings.{St, reset_below, reset_all}
use Rattle.proof_book.specs.FrameLaws.{same_place, changed-on}
use Rattle.proof_book.proofs.ResetsLaws.{reset-place}
use Rattle.proof_isolation.specs.EqualExcept.{Stays, EqualExcept, Channel, LowEquiv}
use Rattle.proof_isolation.specs.Apart.{Pair}
use Rattle.proof_isolation.specs.PairsLaws.{Eq, Any, Steps, p_ret, p-then, p_test, p_write, p-row}
use Rattle.proof_isolation.specs.ButsLaws.{stays-any, but-parts, but-globals, but-on, changed-seat, like-made}
use Rattle.proof_isolation.specs.ButsLaws.{lawful-first}
use Rattle.proof_isolation.specs.ButsLaws.{lawful-next, row-over}
use Rattle.proof_isolation.proofs.ValuesLaws.{p-assign, p-wake-all, p-globals}
use Rattle.proof_isolation.proofs.WalksLaws.{p-reads, p-int-en}

-- ---- records reset

pub reset-stays : {r r' : EpState} → Stays r r' → Stays (reset_of r) (reset_of r')
reset-stays h = record {
  place = record { base = h.place.base; stride = h.place.stride; slots = h.place.slots };
  plain = ap renewed h.plain;
}

-- one endpoint's
abbrev renewed_at : Dir → ℕ → Driver → Driver
renewed_at dir e d = with_on d dir e (reset_of (ep_on d dir e))

renewed-sized : (dir : Dir) (e : ℕ) {d : Driver} → Sized d → Sized (renewed_at dir e d)
renewed-sized dir e {d} z = (changed-on z dir e (reset_of (ep_on d dir e)) (reset-place (ep_on d dir e)) refl).sized

renewed-seat : (x : ℕ) (dir : Dir) (e : ℕ) {d : Driver} → Sized d
    → SamePlace (ep_on d Out x) (ep_on (renewed_at dir e d) Out x)
renewed-seat x dir e {d} z = changed-seat x (changed-on z dir e (reset_of (ep_on d dir e)) (reset-place (ep_on d dir e))
    refl)

renewed-but : {x : ℕ} (dir : Dir) (e : ℕ) {d d' : Driver} → Sized d → Sized d' → EqualExcept x d d'
    → EqualExcept x (renewed_at dir e d) (renewed_at dir e d')
renewed-but dir e z z' h = but-on h z z' dir e _ _ (λ n. ap reset_of (h.eps dir e n))
    (λ _. reset-stays (stays-any h dir e))

-- those of the endpoints below n
below-sized : (n : ℕ) {d : Driver} → Sized d → Sized (reset_below n d)
unfolding reset_below
below-sized zero z = z
below-sized (suc n) z = renewed-sized In n (renewed-sized Out n (below-sized n z))

below-seat : (x n : ℕ) {d : Driver} → Sized d → SamePlace (ep_on d Out x) (ep_on (reset_below n d) Out x)
unfolding reset_below
below-seat x zero {d} z = same_place (ep_on d Out x)
below-seat x (suc n) z = let y = below-sized n z in
    place-trans (below-seat x n z) (place-trans (renewed-seat x Out n y) (renewed-seat x In n (renewed-sized Out n y)))

below_but : {x : ℕ} (n : ℕ) {d d' : Driver} → Sized d → Sized d' → EqualExcept x d d'
    → EqualExcept x (reset_below n d) (reset_below n d')
unfolding reset_below
below_but zero z z' h = h
below_but (suc n) z z' h =
    let y = below-sized n z in
    let y' = below-sized n z' in
    renewed-but In n (renewed-sized Out n y) (renewed-sized Out n y') (renewed-but Out n y y' (below_but n z z' h))

-- no stamp stays
none-but : {x : ℕ} {d d' : Driver} → EqualExcept x d d' → EqualExcept x (no_stamps d) (no_stamps d')
unfolding no_stamps stamp_on request_on
none-but h = but-parts h h.globals h.control h.paced h.wakes h.requests (λ e n. refl)

-- all of them, and no setup packet
module _ (c : Channel) where
  all_but : {d d' : Driver} → Sized d → Sized d' → EqualExcept c.number d d'
      → EqualExcept c.number (reset_all d) (reset_all d')
  unfolding reset_all
  all_but z z' h = let k = none-but (below_but 16 z z' h) in
      but-globals k _ _ (ap (λ (g : Globals). with_setup 0 g.setup_low g.setup_high g) k.globals)

  all-seat : {d : Driver} → Sized d → SamePlace (ep_on d Out c.number) (ep_on (reset_all d) Out c.number)
  unfolding reset_all no_stamps ep_on
  all-seat z = below-seat c.number 16 z

  -- ---- the row of a reset

  first : (s t : St) → LowEquiv c quiet s t → Steps c bus_reset_lem 3 s t
  unfolding ep_on
  first s t l = (
    refl,
    like-made l (lawful-first c bus_reset_lem l.left) (lawful-first c bus_reset_lem l.right)
        (but-globals l.but _ _ (ap (with_ep_config 0) l.but.globals)) (same_place (ep_on s.0 Out c.number))
        l.bytes,
  )

  next : (n : ℕ) (s t : St) → LowEquiv c (mid bus_reset_lem (suc n)) s t → Steps c bus_reset_lem n s t
  unfolding ep_on
  next zero s t l = (
    refl,
    like-made l (lawful-next c bus_reset_lem zero l.left) (lawful-next c bus_reset_lem zero l.right)
        (all_but l.left.rest.sized l.right.rest.sized l.but) (all-seat l.left.rest.sized) l.bytes,
  )
  next (suc zero) s t l = (
    refl,
    like-made l (lawful-next c bus_reset_lem 1 l.left)
        (lawful-next c bus_reset_lem 1 l.right) l.but (same_place (ep_on s.0 Out c.number)) l.bytes,
  )
  next (suc (suc zero)) s t l = (
    refl,
    like-made l (lawful-next c bus_reset_lem 2 l.left) (lawful-next c bus_reset_lem 2 l.right)
        (but-globals l.but _ _ (ap (with_ep_type 0) l.but.globals)) (same_place (ep_on s.0 Out c.number))
        l.bytes,
  )
  next (suc (suc (suc n))) s t l = absurd (omega (arith, l.left.rest.step))

  -- ---- the poll

  module _ {st : ℕ} where
    p-nak-all : (n e : ℕ) → Pair c st {i = false} Any (bus.nak_all n e) (bus.nak_all n e)
    unfolding bus.nak_all
    p-nak-all zero e = p_ret tt
    p-nak-all (suc n) e = p-then (p_write EpTxCtrl e _) (p-then (p_write EpRxCtrl e _) (p-nak-all n (suc e)))

    p-bus-reset : Pair c st Any bus.bus_reset bus.bus_reset
    p-bus-reset = p-then (p_write DevAd 0 0) (p-then (p_write EpRxCtrl 0 _) (p-then (p_write EpTxCtrl 0 _)
        (p-then (p-nak-all 15 1) (p-then (p-row bus_reset_lem next (row-over c bus_reset_lem) first) (p-wake-all c)))))

    pub p-poll : Pair c st Eq bus.poll bus.poll
    p-poll = p-globals c (λ g _. p_test _
        (λ _. p-reads IntFg 0 (λ v v' h. h) (λ flags. p_test _
        (λ _. p-then p-bus-reset (p-then (p-int-en _) (p_ret refl)))
        (λ _. p_test _
        (λ _. p-reads MisSt 0 (λ v v' h. h) (λ m. p-then (p_write IntFg 0 _) (p-then (p-int-en _) (p_ret refl))))
        (λ _. p_ret refl))))
        (λ _. p-then (p-assign c _) (p_ret refl)))
