-- From its first reading on an interrupt keeps that reading's microframe index (request One): its script does, and so
-- do those of the calls that pass
use Rattle.std.specs.Prelude.{Bool, true, refl}
use mathlib.Core.List.{List, [], ◌∷◌}
use Prim.Native.Nat.{ℕ, zero, suc}
use Rattle.bits.specs.Walk.{set_bits}
use Rattle.regs.specs.declared.Dir.{Dir}
use Rattle.regs.specs.declared.Dir.TheVariants.{Out, In}
use Rattle.regs.specs.declared.Token.{Token}
use Rattle.regs.specs.declared.Token.TheVariants as tok
use Rattle.regs.specs.Status.{endpoint, token}
use Rattle.script.specs.declared.Transfer.{Transfer}
use Rattle.script.specs.Statics.{wake, every_iso_in, iso_outs}
use Rattle.script.specs.Calls.{Aside, Open, Close, Queue, aside_code}
use Rattle.script.specs.IsoIn.{iso_in_complete, unseen, sof_one, sof_walk, on_sof, late_one, late_walk}
use Rattle.script.specs.IsoOut.{arrives, check_walk}
use Rattle.script.specs.Handler.{looks, nak_non_iso, toggled, retake, settle, received, out_arm, in_arm, entered, framed}
use Rattle.script.specs.Handler.{iso_for, dispatch, moved_on, ep0_moved_on, served, on_transfer, on_setup, on_interrupt}
use Rattle.proof_book.specs.KeepingLaws.{calm, passing, ChangesOnly, got}

-- ---- the interrupt's script, in whose proof stand a pair for each bind and test, a function for each number brought
module _ (x : ℕ) where
  of-wake : (d : Dir) (e : ℕ) → ChangesOnly calm x (wake {i = true} d e)
  of-wake d e = (refl, tt)

  of-looks : (n : ℕ) → ChangesOnly calm x (looks {i = true} n)
  unfolding looks
  of-looks zero = tt
  of-looks (suc n) = (λ _. tt, λ _ _. (tt, of-looks n))

  of-nak : (st : ℕ) → ChangesOnly calm x (nak_non_iso {i = true} st)
  of-nak st = (λ _ _. tt, λ _ _. (λ _ _. tt, λ _ _. ((λ _. tt, λ _ _. tt), ((λ _. tt, λ _ _. tt), tt))))

  of-toggled : (d : Dir) (e : ℕ) → ChangesOnly calm x (toggled {i = true} d e)
  of-toggled d e = (
    of-looks 2001,
    λ _ _. (
      λ _. tt,
      λ _ _. (
        λ _ _. tt,
        λ _ _. (
          (((λ _. tt, λ _ _. tt), tt), λ _ _. tt),
          ((λ _ _. tt, λ _ _. (tt, tt)), λ _ _. tt),
        ),
      ),
    ),
  )

  of-retake : (t : Transfer) → ChangesOnly calm x (retake {i = true} t)
  of-retake t = (λ _. tt, λ _ _. ((λ _. tt, λ _ _. (tt, (λ _. tt, λ st _. (of-nak st, λ _ _. tt)))), tt))

  of-settle : (t : Transfer) → ChangesOnly calm x (settle {i = true} t)
  of-settle t = (
    λ _ _. tt,
    λ _ _. (
      λ _ _. tt,
      λ _ _. (
        (of-looks 2001, λ _ _. (λ _. tt, λ _ _. (λ _. tt, λ _ _. tt))),
        ((of-looks 2001, λ _ _. (λ _. tt, λ _ _. tt)), (of-retake t, tt)),
      ),
    ),
  )

  of-complete : (e : ℕ) → ChangesOnly calm x (iso_in_complete {i = true} e)
  of-complete e = ((refl, tt), λ _ _. ((λ _. tt, λ _ _. ((tt, λ _ _. (λ _. tt, λ _ _. tt)), tt)), λ _ _. of-wake In e))

  of-unseen : (frame e : ℕ) → ChangesOnly calm x (unseen {i = true} frame e)
  of-unseen frame e = ((λ _ _. tt, λ _ _. (tt, tt)), λ _ _. of-complete e)

  of-sof-one : (frame e : ℕ) → ChangesOnly calm x (sof_one {i = true} frame e)
  of-sof-one frame e = (
    λ _ _. tt,
    λ _ _. (
      tt,
      (
        λ _. tt,
        λ _ _.
            (of-unseen frame e, (λ _. tt, λ _ _. (tt, of-unseen frame e))),
      ),
    ),
  )

  of-sof-walk : (frame : ℕ) (es : List ℕ) → ChangesOnly calm x (sof_walk {i = true} frame es)
  unfolding sof_walk
  of-sof-walk frame [] = tt
  of-sof-walk frame (e ∷ es) = (of-sof-one frame e, λ _ _. of-sof-walk frame es)

  of-sof : (frame : ℕ) → ChangesOnly calm x (on_sof {i = true} frame)
  of-sof frame = (
    (λ _ _. tt, λ g w. (got x g w, tt)),
    λ _ _. (λ _ _. tt, λ g _. (of-sof-walk frame (set_bits (every_iso_in g)), λ _ _. (λ _ _. tt, λ _ _. (tt, tt)))),
  )

  of-late : (frame e : ℕ) → ChangesOnly calm x (late_one {i = true} frame e)
  of-late frame e = ((λ _ _. tt, λ _ _. ((tt, tt), λ _ _. tt)), λ _ _. (of-complete e, tt))

  of-late-walk : (frame : ℕ) (es : List ℕ) → ChangesOnly calm x (late_walk {i = true} frame es)
  unfolding late_walk
  of-late-walk frame [] = tt
  of-late-walk frame (e ∷ es) = (of-late frame e, λ _ _. of-late-walk frame es)

  of-arrives : (e n : ℕ) → ChangesOnly calm x (arrives {i = true} e n)
  of-arrives e n = (tt, λ _ _. of-wake Out e)

  of-check-walk : (t : Transfer) (iso : Bool) (es : List ℕ) → ChangesOnly calm x (check_walk {i = true} t iso es)
  unfolding check_walk
  of-check-walk t iso [] = tt
  of-check-walk t iso (e ∷ es) = (
    (λ _. tt, λ _ _. ((of-arrives e t.len, (λ _. tt, λ _ _. (tt, (λ _. tt, λ n _. of-arrives e n)))), tt)),
    λ _ _. of-check-walk t iso es,
  )

  of-received : (e n : ℕ) → ChangesOnly calm x (received {i = true} e n)
  of-received e n = ((λ _ _. tt, λ _ _. (tt, tt)), λ _ _. of-wake Out e)

  of-out : (t : Transfer) (iso : Bool) → ChangesOnly calm x (out_arm {i = true} t iso)
  of-out t iso = (
    tt,
    (
      (((λ _. tt, λ _ _. tt), λ _ _. of-received 0 t.len), tt),
      (of-toggled Out (endpoint t.st), λ _ _. (of-received (endpoint t.st) t.len, tt)),
    ),
  )

  of-in : (t : Transfer) (iso : Bool) (frame : ℕ) → ChangesOnly calm x (in_arm {i = true} t iso frame)
  of-in t iso frame = (
    (λ _ _. tt, λ _ _. (tt, of-late frame (endpoint t.st))),
    (
      (
        (λ _. tt, λ _ _. tt),
        λ _ _. (
          (λ _ _. tt, λ _ _. (tt, tt)),
          λ _ _.
              ((λ _ _. tt, λ _ _. (tt, tt)), λ _ _. of-wake In 0),
        ),
      ),
      (
        of-toggled In (endpoint t.st),
        λ _ _. (
          ((λ _ _. tt, λ _ _. (tt, tt)), λ _ _. of-wake In (endpoint t.st)),
          tt,
        ),
      ),
    ),
  )

  of-dispatch : (k : Token) (t : Transfer) (iso : Bool) (frame : ℕ)
      → ChangesOnly calm x (dispatch {i = true} k t iso frame)
  of-dispatch tok.Sof t iso frame = (λ _ _. tt, λ _ _. (of-sof frame, tt))
  of-dispatch tok.Out t iso frame = of-out t iso
  of-dispatch tok.In t iso frame = of-in t iso frame
  of-dispatch tok.Setup t iso frame = tt

  of-moved : (d : Dir) → ChangesOnly calm x (moved_on {i = true} d)
  of-moved d = (
    λ _ _. tt,
    λ _ _. (
      ((λ _. tt, λ _ _. tt), λ _ _. ((λ _ _. tt, λ _ _. (tt, tt)), λ _ _. of-wake d 0)),
      tt,
    ),
  )

  of-moved-on : (k : Token) → ChangesOnly calm x (ep0_moved_on {i = true} k)
  of-moved-on tok.Out = of-moved In
  of-moved-on tok.In = of-moved Out
  of-moved-on tok.Sof = tt
  of-moved-on tok.Setup = tt

  of-served : (t : Transfer) (iso : Bool) (frame : ℕ) → ChangesOnly calm x (served {i = true} t iso frame)
  of-served t iso frame = (
    λ _ _. tt,
    λ _ _. (
      (of-sof frame, tt),
      λ _ _. (
        ((λ _ _. tt, λ g _. of-late-walk frame (set_bits (every_iso_in g))), tt),
        λ _ _. (
          (of-dispatch (token t.st) t iso frame, tt),
          λ _ _. (
            ((λ _ _. tt, λ g _. of-check-walk t iso (set_bits (iso_outs g))), tt),
            λ _ _.
                (of-moved-on (token t.st), tt),
          ),
        ),
      ),
    ),
  )

  of-transfer : ChangesOnly calm x (on_transfer {i = true})
  of-transfer = (
    λ _. tt,
    λ m _. (
      λ _. tt,
      λ st _. (
        λ _. tt,
        λ n _. (
          (of-nak st, tt),
          λ _ _. (
            tt,
            λ _ _. (
              of-settle (entered m st n),
              λ t _. (
                λ _ _. tt,
                λ o _. (
                  λ _ _. tt,
                  λ n _. (
                    λ _. tt,
                    λ frame _. (
                      λ _ _. tt,
                      λ g _. of-served (framed t (iso_for (token t.st) o n) g.sof_frame frame)
                          (iso_for (token t.st) o n) frame,
                    ),
                  ),
                ),
              ),
            ),
          ),
        ),
      ),
    ),
  )

  of-setup : ChangesOnly calm x (on_setup {i = true})
  of-setup = (
    tt,
    λ _ _. (
      tt,
      λ _ _. (
        λ _. tt,
        λ low _. (
          λ _. tt,
          λ high _. (
            (λ _ _. tt, λ _ _. (tt, tt)),
            λ _ _. (
              (λ _ _. tt, λ _ _. (tt, tt)),
              λ _ _. ((λ _ _. tt, λ g w. (got x g w, tt)), λ _ _. (tt, λ _ _. (of-wake Out 0, λ _ _. of-wake In 0))),
            ),
          ),
        ),
      ),
    ),
  )

  pub of_interrupt : ChangesOnly calm x (on_interrupt {i = true})
  of_interrupt = (
    λ _. tt,
    λ _ _. (
      (((λ _ _. tt, λ g w. ((got x g w, tt), λ _ _. tt)), λ _ _. (refl, tt)), tt),
      λ _ _. (
        (((λ _ _. tt, λ g w. ((got x g w, tt), λ _ _. tt)), λ _ _. (refl, tt)), tt),
        λ _ _. ((tt, tt), λ _ _. ((tt, tt), λ _ _. ((of-transfer, tt), λ _ _. (of-setup, tt)))),
      ),
    ),
  )

-- ---- the calls that pass between

pub of-aside : (x : ℕ) (o : Aside) → ChangesOnly passing x (aside_code o)
of-aside x (Open e) = (
  λ _ _. tt,
  λ _ _. (
    (
      λ _ _. tt,
      λ _ _. (
        (
          λ _ _. tt,
          λ _ _. (
            tt,
            (
              λ _. tt,
              λ _ _.
                  (((refl, tt), λ _ _. (λ _. tt, λ _ _. (λ _. tt, λ _ _. tt))), tt),
            ),
          ),
        ),
        tt,
      ),
    ),
    tt,
  ),
)
of-aside x (Close e) = (
  λ _ _. tt,
  λ _ _. (
    (λ _ _. tt, λ _ _. ((λ _. tt, λ _ _. (((refl, tt), λ _ _. tt), tt)), tt)),
    tt,
  ),
)
of-aside x (Queue e bytes) = (
  λ _ _. tt,
  λ _ _. (
    (
      λ _ _. tt,
      λ _ _. (
        (
          λ _ _. tt,
          λ _ _. (
            (
              λ _ _. tt,
              λ _ _. (
                tt,
                (
                  λ _ _. tt,
                  λ _ _.
                      (tt, (λ _. tt, λ _ _. (((refl, tt), λ _ _. tt), tt))),
                ),
              ),
            ),
            tt,
          ),
        ),
        tt,
      ),
    ),
    tt,
  ),
)
