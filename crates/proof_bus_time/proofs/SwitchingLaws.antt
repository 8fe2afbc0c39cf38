-- An endpoint's charge while one is enabled or disabled, and over a poll of the bus with its reset
use Rattle.std.specs.Prelude.{Bool, ◌&&◌, ◌||◌, [], ◌∷◌, ◌≡◌, eqb}
use Rattle.std.proofs.Math.Bool.{true, false, cond}
use Rattle.std.proofs.Math.Path.{refl, ap, subst}
use Rattle.std.proofs.Common.{sym, ◌∙◌}
use Prim.Native.Nat.{ℕ, zero, suc}
use Rattle.bits.specs.Bit.{bit_is_set, pick}
use Rattle.bits.specs.BitLaws.{set-with}
use Rattle.regs.specs.declared.Dir.{Dir}
use Rattle.regs.specs.declared.Dir.TheVariants.{Out, In}
use Rattle.regs.specs.Enables as enables
use Rattle.regs.specs.Enables.{place}
use Rattle.state.specs.Driver.{Driver, ep_on}
use Rattle.state.specs.Wakes.{wake_code}
use Rattle.script.specs.Tree as tree
use Rattle.script.specs.Tree.{ends}
use Rattle.script.specs.Script.{Script, bind, run, rows, waken, switch}
use Rattle.script.specs.Statics.{is_on, wake}
use Rattle.script.specs.Bus as bus
use Rattle.script.specs.Calls.{slotted, SetEnabled}
use Rattle.script_ops.specs.Records.{iso_out}
use Rattle.script_ops.specs.Rings.{St, config_step}
use Rattle.script_ops.specs.Concrete.{concrete}
use Rattle.bus_time.specs.Time.{charge_of}
use Rattle.calls.specs.Sharing.{charge_on}
use Rattle.proof_bus_time.specs.Enabled.{is_enabled}
use Rattle.proof_bus_time.specs.Charged.{op_begun, given_back}
use Rattle.proof_bus_time.specs.StaysLaws.{config_of, Turns, Stays, still, stays, act_stays, switch-stays, turned}
use Rattle.proof_bus_time.specs.StaysLaws.{enabled-turns, row-turns}
use Rattle.proof_bus_time.specs.Calm.{NoEpConfigWrite}
use Rattle.proof_bus_time.specs.LeftLaws.{Left, at_end, at_ask, left-bind, left-more, Goes, CalmKeeps, keeps}
use Rattle.proof_bus_time.specs.LeftLaws.{calm_run, calm-then}

-- ---- what is due

-- an endpoint that is enabled, or whose enabling is under way (`u`), is charged by what the state gives; no other is
abbrev pub Due : Dir → ℕ → Bool → ℕ → Driver → Type 0
Due dir e u c d = c ≡ cond (is_enabled d dir e || u) (charge_on d dir e) 0

pub charge-stays : {w : ℕ} {d d' : Driver} (dir : Dir) (e : ℕ) → Turns w d d' → charge_on d' dir e ≡ charge_on d dir e
unfolding charge_on
charge-stays dir e x = ap (λ (g : ℕ × ℕ × ℕ). charge_of g.1 g.2) (x.given dir e)

pub due-stays : {d d' : Driver} (dir : Dir) (e : ℕ) (u : Bool) (c : ℕ) → Stays d d' → Due dir e u c d → Due dir e u c d'
unfolding enables.is_on
due-stays {d = d} {d' = d'} dir e u c x h =
    h ∙ (ap (λ (w : ℕ). cond (bit_is_set w (place dir e) || u) (charge_on d dir e) 0) (sym x.config)
    ∙ ap (λ (n : ℕ). cond (bit_is_set (config_of d') (place dir e) || u) n 0) (sym (charge-stays dir e x)))

iso-stays : {w : ℕ} {d d' : Driver} (dir : Dir) (e : ℕ) → Turns w d d' → iso_out d' dir e ≡ iso_out d dir e
unfolding iso_out
iso-stays Out e x = ap (λ (g : ℕ × ℕ × ℕ). is_on g.0) (x.given Out e)
iso-stays In e x = refl

-- one bit turned: of the endpoint itself (`own`) or of another
by_bit : (own on b : Bool) (charge c : ℕ) → c ≡ cond (b || (on && own)) charge 0
    → (cond (pick own on b) c 0 ≡ cond (pick own on b || (on && own)) charge 0)
    × (cond (pick own on b) c 0 ≡ cond (pick own on b || false) charge 0)
by_bit true true true charge c h = (h, h)
by_bit true true false charge c h = (h, h)
by_bit true false b charge c h = (refl, refl)
by_bit false true true charge c h = (h, h)
by_bit false true false charge c h = (refl, refl)
by_bit false false true charge c h = (h, h)
by_bit false false false charge c h = (refl, refl)

-- what the write leaves of the charge: an enabling all, a disabling nothing of its own endpoint's
back-bit : (own on b : Bool) (charge c : ℕ) → c ≡ cond (b || (on && own)) charge 0
    → cond (pick own on b) c 0 ≡ cond on c (cond own 0 c)
back-bit true true b charge c h = refl
back-bit true false b charge c h = refl
back-bit false true true charge c h = refl
back-bit false true false charge c h = sym h
back-bit false false true charge c h = refl
back-bit false false false charge c h = sym h

by-begun : (dir dir' : Dir) (e e' : ℕ) (on : Bool) (c : ℕ)
    → cond on c (cond (eqb (place dir' e') (place dir e)) 0 c) ≡ given_back dir e
    (op_begun (slotted (SetEnabled dir' e' on))) c
by-begun dir dir' e e' true c = refl
by-begun dir dir' e e' false c = refl

module _ (dir : Dir) (e : ℕ) where
  abbrev bit : ℕ
  bit = place dir e

  -- with nothing under way after EP0's start
  abbrev pub Ended : ℕ → Driver → Type 0
  Ended c d = Due dir e false c d × (d.globals.stage ≡ 2)

  pub ended-stays : (c : ℕ) (d d' : Driver) → Stays d d' → Ended c d → Ended c d'
  ended-stays c d d' x h = (due-stays dir e false c x h.0, x.stage ∙ h.1)

  -- calm scripts then
  pub calm-ended : {i : Bool} {A : Type 0} (back : ℕ → ℕ) (c : ℕ) (p : Script i A) → NoEpConfigWrite false p → (s : St)
      → Ended c s.0 → Left bit back (Due dir e false) Ended c (run concrete p s)
  calm-ended back c p x s h =
      left-more (calm_run (keeps (ended-stays c)) bit back c (Due dir e false) (λ d k. k.0) p x s h)
      (λ g d y. subst (λ z. Ended z d) (sym y.0) y.1)

  -- ---- an endpoint is enabled or disabled

  module _ (dir' : Dir) (e' : ℕ) (on : Bool) where
    -- is its enabling under way?
    abbrev pub mine : Bool
    mine = on && eqb (place dir' e') (place dir e)

    -- what its write of ep_config gives back
    abbrev pub turns_back : ℕ → ℕ
    turns_back c = given_back dir e (op_begun (slotted (SetEnabled dir' e' on))) c

    abbrev Both : ℕ → Bool → ℕ → Type 0
    Both c b charge = (cond b c 0 ≡ cond (b || mine) charge 0) × (cond b c 0 ≡ cond (b || false) charge 0)

    turning : (c : ℕ) (d d' : Driver) → Turns (turned d dir' e' on) d d'
        → Due dir e mine c d → let g = cond (bit_is_set (config_of d') bit) c 0 in Due dir e mine g d' × Due dir e false g d'
    unfolding enables.is_on
    turning c d d' x h =
        let word = ap (λ (w : ℕ). bit_is_set w bit) x.config ∙ set-with (config_of d) (place dir' e') on bit in
        subst (λ (b : Bool). Both c b (charge_on d' dir e)) (sym word)
        (subst (λ (n : ℕ). Both c (pick (eqb (place dir' e') bit) on (bit_is_set (config_of d) bit)) n)
        (sym (charge-stays dir e x))
        (by_bit (eqb (place dir' e') bit) on (bit_is_set (config_of d) bit) (charge_on d dir e) c h))

    turning-back : (c : ℕ) (d d' : Driver) → Turns (turned d dir' e' on) d d' → Due dir e mine c d
        → cond (bit_is_set (config_of d') bit) c 0 ≡ turns_back c
    unfolding enables.is_on
    turning-back c d d' x h =
        ap (λ (b : Bool). cond b c 0) (ap (λ (w : ℕ). bit_is_set w bit) x.config ∙ set-with (config_of d) (place dir' e')
        on bit)
        ∙ (back-bit (eqb (place dir' e') bit) on (bit_is_set (config_of d) bit) (charge_on d dir e) c h ∙ by-begun dir dir' e
        e' on c)

    module _ (c : ℕ) (d : Driver) (due : Due dir e mine c d) (second : d.globals.stage ≡ 2) where
      abbrev K : Driver → Type 0
      K x = Stays d x

      M : CalmKeeps false K
      M = keeps (λ x y p k. still k p)

      shown : (x : Driver) → K x → Due dir e mine c x
      shown x k = due-stays dir e mine c k due

      abbrev Turning : {A : Type 0} → Script false A → Type 0
      Turning p = Goes bit turns_back c K (Due dir e mine) Ended p

      first : {A B : Type 0} {p : Script false A} {f : A → Script false B} → NoEpConfigWrite false p
          → ((a : A) → Turning (f a)) → Turning (bind p f)
      first x rest = calm-then M bit turns_back c (Due dir e mine) shown x rest

      -- the write of ep_config
      of-config : (iso : Bool) → iso_out d dir' e' ≡ false → Turning (bus.kept {i = false} dir' e' iso on)
      of-config iso plain = first (λ _. tt, λ _. (tt, λ _. (tt, tt))) (λ _. record {
        on = λ t y.
            let x = enabled-turns t.0 dir' e' on (iso-stays dir' e' y ∙ plain) in
            let z = turning c t.0 _ x (shown t.0 y) in
            at_ask (turning-back c t.0 _ x (shown t.0 y)) z.0
            (λ _ u w. at_end (due-stays dir e false _ w z.1, w.stage ∙ (x.stage ∙ (y.stage ∙ second))));
      })

module _ (dir : Dir) (e e' : ℕ) (on : Bool) (c : ℕ) (d : Driver) (second : d.globals.stage ≡ 2) where
  module _ (due : Due dir e (mine dir e In e' on) c d) where
    abbrev then_in : {A B : Type 0} {p : Script false A} {f : A → Script false B} → NoEpConfigWrite false p
        → ((a : A) → Turning dir e In e' on c d due second (f a)) → Turning dir e In e' on c d due second (bind p f)
    then_in x rest = first dir e In e' on c d due second x rest

    of-in : (iso : Bool) → Turning dir e In e' on c d due second (bus.set_enabled_in {i = false} e' iso on)
    unfolding iso_out
    of-in iso =
        then_in tt (λ _. then_in (λ _. tt, λ _. tt) (λ _. then_in tt
        (λ _. then_in (λ _. tt, tt) (λ _. then_in (tt, tt) (λ _. then_in (tt, tt) (λ _.
        of-config dir e In e' on c d due second iso refl))))))

  module _ (due : Due dir e (mine dir e Out e' on) c d) where
    abbrev Runs : {A : Type 0} → tree.Out St A → Type 0
    Runs o = Left (place dir e) (turns_back dir e Out e' on) (Due dir e (mine dir e Out e' on)) (Ended dir e) c o

    abbrev then_out : {A B : Type 0} {p : Script false A} {f : A → Script false B} → NoEpConfigWrite false p
        → ((a : A) → Turning dir e Out e' on c d due second (f a)) → Turning dir e Out e' on c d due second (bind p f)
    then_out x rest = first dir e Out e' on c d due second x rest

    of_plain : iso_out d Out e' ≡ false → Turning dir e Out e' on c d due second (bus.set_enabled_out {i = false} e' on)
    of_plain plain =
        then_out tt (λ _. then_out (λ _. tt, λ _. tt) (λ _. then_out (λ _. tt, tt) (λ _. then_out (tt, tt) (λ _.
        of-config dir e Out e' on c d due second false plain))))

    abbrev shows : (x : Driver) → Stays d x → Due dir e (mine dir e Out e' on) c x
    shows x k = shown dir e Out e' on c d due second x k

    -- an isochronous OUT: its row
    of_row : is_on (ep_on d Out e').iso ≡ true → (n : ℕ) (s : St) → Stays d s.0
        → Runs (rows concrete (switch e' on) n (λ t. ends (tt {0}) t) s)
    unfolding iso_out config_step
    of_row iso zero s k =
        let x = row-turns s.0 e' on (iso-stays Out e' k ∙ iso) in
        let z = turning dir e Out e' on c s.0 _ x (shows s.0 k) in
        at_ask (turning-back dir e Out e' on c s.0 _ x (shows s.0 k)) z.0
        (λ _ t w. at_end (due-stays dir e false _ w z.1, w.stage ∙ (x.stage ∙ (k.stage ∙ second))))
    of_row iso (suc zero) s k =
        let x = still k (switch-stays e' on 0 s) in at_ask refl (shows _ x) (λ _ t w. of_row iso zero t (still x w))
    of_row iso (suc (suc zero)) s k =
        let x = still k (switch-stays e' on 1 s) in at_ask refl (shows _ x)
        (λ _ t w. of_row iso (suc zero) t (still x w))
    of_row iso (suc (suc (suc n))) s k =
        let x = still k (switch-stays e' on (suc (suc n)) s) in at_ask refl (shows _ x)
        (λ _ t w. of_row iso (suc (suc n)) t (still x w))

    of-out : (iso : Bool) → is_on (ep_on d Out e').iso ≡ iso → (s : St) → Stays d s.0
        → Runs (cond iso (rows concrete (switch e' on) 18 (λ t. ends (tt {0}) t) s)
        (run concrete (bus.set_enabled_out {i = false} e' on) s))
    unfolding iso_out
    of-out true h s k = of_row h 18 s k
    of-out false h s k = (of_plain h).on s k

-- ---- the operation

module _ (dir : Dir) (e : ℕ) where
  woken : {back : ℕ → ℕ} {X : ℕ → Driver → Type 0} {A : Type 0} (dir' : Dir) (e' : ℕ) {c : ℕ} {o : tree.Out St A}
      → Left (place dir e) back X (Ended dir e) c o
      → Left (place dir e) back X (Ended dir e) c (tree.bind_out o (λ _ t. run concrete (wake {i = false} dir' e') t))
  woken dir' e' x = left-bind x (λ g _ t y. at_end (ended-stays dir e g _ _
      (act_stays (waken (wake_code dir' e' ∷ [])) refl t) y))

  pub switched : (dir' : Dir) (e' : ℕ) (on : Bool) (c : ℕ) (s : St) → Due dir e (mine dir e dir' e' on) c s.0
      → s.0.globals.stage ≡ 2
      → Left (place dir e) (turns_back dir e dir' e' on) (Due dir e (mine dir e dir' e' on)) (Ended dir e) c
      (run concrete (bus.set_enabled dir' e' on) s)
  switched In e' on c s due second = woken In e' ((of-in dir e e' on c s.0 second due
      (is_on (ep_on s.0 In e').iso)).on s (stays s.0))
  switched Out e' on c s due second = woken Out e' (of-out dir e e' on c s.0 second due
      (is_on (ep_on s.0 Out e').iso) refl s (stays s.0))
