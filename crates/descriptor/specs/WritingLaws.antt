-- Descriptors laid into room. Assumes nothing.
use Rattle.std.specs.Prelude.{◌≡◌, refl, List, [], ◌∷◌, ◌++◌, ℕ, zero, suc, ◌+◌, ◌*◌, ◌≤◌, length, get_or, take, drop}
use Rattle.std.proofs.Common.{sym, ap, ◌∙◌, append_assoc, append-nil, add-one, arith, length-append, length-drop, take-append-drop, length-take-le, take_at, drop-drop}
use Rattle.std.proofs.Math.Seq.{drop-append-add}
use Rattle.descriptor.specs.declared.Endpoint.{Endpoint}
use Rattle.descriptor.specs.Endpoints.{none}
use Rattle.descriptor.specs.Writing.{laid, total_for, configuration, interface, endpoint, endpoints, written, up_to}

-- ---- one after the other

pub length-laid : (r : List ℕ) (at : ℕ) (d : List ℕ) → at + length d ≤ length r → length (laid r at d) ≡ length r
length-laid r at d h =
    let a = length-append (take at r ++ d) (drop (at + length d) r) in
    let b = length-append (take at r) d in
    let c = length-take-le at r (omega arith) in
    let e = length-drop (at + length d) r in
    omega arith

pub laid-laid : (r : List ℕ) (at : ℕ) (b d : List ℕ) → at + length b ≤ length r → laid (laid r at b) (at + length b) d
    ≡ laid r at (b ++ d)
laid-laid r at b d h =
    let p = take at r ++ b in
    let q = drop (at + length b) r in
    let m : length p ≡ at + length b = omega (arith, length-append (take at r) b, length-take-le at r (omega arith)) in
    let t : take (at + length b) (p ++ q) ≡ p = take_at p q (at + length b) m in
    let u : drop (at + length b + length d) (p ++ q) ≡ drop (at + length b + length d) r =
    ap (λ (k : ℕ). drop (k + length d) (p ++ q)) (sym m) ∙ drop-append-add p q (length d)
    ∙ drop-drop (length d) (at + length b) r in
    let e : at + length (b ++ d) ≡ at + length b + length d = omega (arith, length-append b d) in
    ap (λ (x : List ℕ). x ++ d ++ drop (at + length b + length d) (p ++ q)) t
    ∙ ap (λ (x : List ℕ). p ++ d ++ x) u
    ∙ ap (λ (x : List ℕ). x ++ drop (at + length b + length d) r) (append_assoc (take at r) b d)
    ∙ ap (λ (k : ℕ). take at r ++ (b ++ d) ++ drop k r) (sym e)

-- ---- the endpoints

pub length-up_to : (n : ℕ) (es : List Endpoint) → length (up_to n es) ≡ n
unfolding up_to
length-up_to zero es = refl
length-up_to (suc n) es = omega (arith, length-append (up_to n es) (get_or es n none ∷ []), length-up_to n es)

pub endpoints-append : (es fs : List Endpoint) → endpoints (es ++ fs) ≡ endpoints es ++ endpoints fs
unfolding endpoints
endpoints-append [] fs = refl
endpoints-append (e ∷ es) fs = rw (endpoints-append es fs)

pub length-endpoints : (es : List Endpoint) → length (endpoints es) ≡ length es * 7
unfolding endpoints
length-endpoints [] = refl
length-endpoints (e ∷ es) = let i = length-endpoints es in omega arith

more : (es : List Endpoint) (i : ℕ) → endpoints (up_to (i + 1) es) ≡ endpoints (up_to i es) ++ endpoint (get_or es i none)
unfolding up_to endpoints
more es i = rw add-one (endpoints-append (up_to i es) (get_or es i none ∷ []))

length_so_far : (es : List Endpoint) (i : ℕ) → length (endpoints (up_to i es)) ≡ i * 7
length_so_far es i = length-endpoints (up_to i es) ∙ rw (length-up_to i es)

pub length-room : (r : List ℕ) (es : List Endpoint) (i : ℕ) → total_for i ≤ length r
    → length (laid r 18 (endpoints (up_to i es))) ≡ length r
length-room r es i h = length-laid r 18 (endpoints (up_to i es)) (omega (arith, length_so_far es i))

pub laid_none : (r : List ℕ) (es : List Endpoint) → laid r 18 (endpoints (up_to 0 es)) ≡ r
unfolding up_to endpoints
laid_none r es = rw append-nil (take-append-drop 18 r)

pub laid_more : (r : List ℕ) (es : List Endpoint) (i : ℕ) → total_for (i + 1) ≤ length r
    → laid (laid r 18 (endpoints (up_to i es))) (18 + i * 7) (endpoint (get_or es i none))
    ≡ laid r 18 (endpoints (up_to (i + 1) es))
laid_more r es i h =
    let l = length_so_far es i in
    ap (λ (k : ℕ). laid (laid r 18 (endpoints (up_to i es))) (18 + k) (endpoint (get_or es i none))) (sym l)
    ∙ laid-laid r 18 (endpoints (up_to i es)) (endpoint (get_or es i none)) (omega arith)
    ∙ ap (λ (x : List ℕ). laid r 18 x) (sym (more es i))

-- ---- all of it

pub length-written : (es : List Endpoint) → length (written es) ≡ total_for (length es)
unfolding written
length-written es = omega (arith, length-endpoints es)

pub laid-all : (r : List ℕ) (n : ℕ) (es : List Endpoint) → total_for n ≤ length r
    → laid (laid (laid r 0 (configuration n)) 9 (interface n)) 18 (endpoints (up_to n es)) ≡ written (up_to n es)
    ++ drop (total_for n) r
unfolding written
laid-all r n es h =
    let e = endpoints (up_to n es) in
    let l = length_so_far es n in
    let c = configuration n in
    let i = interface n in
    ap (λ (x : List ℕ). laid x 18 e) (laid-laid r 0 c i (omega arith))
    ∙ laid-laid r 0 (c ++ i) e (omega arith)
    ∙ rw (length-up_to n es) (ap (λ (k : ℕ). c ++ i ++ e ++ drop k r) (let z : 0 + length (c ++ i ++ e) ≡ total_for n
    = omega arith in z))
