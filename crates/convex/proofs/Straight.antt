-- Corners of turn 0 dropped from a closed list that goes once round and whose first corner turns:
-- the doubled area stays (`straight_area`), every turn is above 0 and one is a descent
-- (`straight_round`, to `Strict`), and the first corner stays (`straight_first`).
-- In order: the corners that stay (`turning_cons`); the doubled area along a way; edges of one
-- direction gathered (`first`, `rest`), whose turns are the others'; the edges of the corners that
-- stay are the edges gathered (`way_gathered`); the closed list. Assumes nothing.
use mathlib.Core.Path.{◌≡◌, refl, sym, ◌∙◌, ap, ap₂, subst}
use mathlib.Core.Bool.{Bool, true, false, cond}
use mathlib.Core.List.{List, [], ◌∷◌, ◌++◌, map}
use Prim.Native.Nat.{◌+◌}
use native.Mathlib.Omega.{arith}
use lib.IntN.{ℤ, pos, ◌+ℤ◌, ◌*ℤ◌}
use lib.Signed.{◌<ℤ◌}
use Rattle.integers.specs.Lists.{All, sumℤ, sumℕ, links, neighbours}
use Rattle.integers.specs.Test.{eq_z}
use Rattle.integers.proofs.Ring.{con, ◌:+◌, ◌:*◌, ◌:≡◌, ◌:≡ᵖ◌, pt, int, ring, ringᵖ}
use Rattle.integers.proofs.Order.{zarith, by_test}
use Rattle.integers.proofs.Arith.{◌:<◌, ◌:=◌, ◌⇒◌, arithℤ}
use Rattle.integers.proofs.Signs.{pos_mul, pos_cancel}
use Rattle.integers.proofs.Tests.{eq_z_true, eq_z_false, ≢-eq_z}
use Rattle.integers.proofs.Elements.{all_map, all_image}
use Rattle.integers.proofs.Sums.{sum_cons}
use Rattle.integers.proofs.Neighbours.{firsts_neighbours}
use Rattle.plane.specs.Plane.{Pt, O, ◌+ᵖ◌, ◌-ᵖ◌, cross, dot, turn, lower}
use Rattle.plane.specs.Contour.{last_of, edges, contour_area}
use Rattle.plane.proofs.Terms.{OE, ◌+E◌, ◌-E◌, cross_e, dot_e, turn_e}
use Rattle.plane.proofs.Vectors.{zero-+ᵖ, cross_self}
use Rattle.plane.specs.Halves.{Nz}
use Rattle.plane.proofs.Directions.{same_dot}
use Rattle.plane.proofs.Sides.{line_trans}
use Rattle.convex.specs.Joining.{kept_by, turning, without_straight}
use Rattle.convex.proofs.Forward.{Forward, leftward, onward, forward_nz_l, forward_nz_r, nz_square, times_zero, descent, rises, descent_halves}
use Rattle.convex.proofs.Round.{Onward, descent_at, Round, way}
use Rattle.convex.proofs.Newest.{Sharp}

-- ---- the corners that stay

-- the corner after, where f is after the last
abbrev pub next : Pt → List Pt → Pt
next f [] = f
next f (c ∷ l) = c

pub turning_cons : (a f b : Pt) (l : List Pt) → turning a f (b ∷ l) ≡ kept_by a b (next f l) (turning b f l)
unfolding turning
turning_cons a f b [] = refl
turning_cons a f b (c ∷ l) = refl

-- the edges after the first of the way through l to f
abbrev later : Pt → List Pt → List Pt
later f [] = []
later f (c ∷ l) = way c (l ++ (f ∷ []))

way_cons : (a f : Pt) (l : List Pt) → way a (l ++ (f ∷ [])) ≡ (next f l -ᵖ a) ∷ later f l
unfolding links
way_cons a f [] = refl
way_cons a f (c ∷ l) = refl

-- ---- the doubled area along a way

-- Σ of the crosses from s through l to f
abbrev sweep : Pt → List Pt → Pt → ℤ
sweep s l f = sumℤ (map (λ e. cross e.0 e.1) (links s (l ++ (f ∷ []))))

sweep_cons : (s b : Pt) (l : List Pt) (f : Pt) → sweep s (b ∷ l) f ≡ cross s b +ℤ sweep b l f
unfolding links
sweep_cons s b l f = sum_cons (cross s b) (map (λ e. cross e.0 e.1) (links b (l ++ (f ∷ []))))

-- s, a, n in line: s × n = s × a + a × n
in_line : (s a n : Pt) → cross (a -ᵖ s) (n -ᵖ a) ≡ pos 0 → cross s n ≡ cross s a +ℤ cross a n
in_line = arithℤ (pt ∷ pt ∷ pt ∷ []) (λ s a n. cross_e (a -E s) (n -E a) := con (pos 0) ⇒ cross_e s n := cross_e s a :+ cross_e a n) (omega arith)

-- s, a, b in line and a, b, n in line, so s, b, n in line
pub in_line_on : (s a b n : Pt) → Nz (b -ᵖ a) → cross (a -ᵖ s) (b -ᵖ a) ≡ pos 0 → turn a b n ≡ pos 0 → cross (b -ᵖ s) (n -ᵖ b) ≡ pos 0
in_line_on s a b n z e t = by s a b n (line_trans (n -ᵖ b) (a -ᵖ s) z t e) t
  where
    by : (s a b n : Pt) → cross (a -ᵖ s) (n -ᵖ b) ≡ pos 0 → turn a b n ≡ pos 0 → cross (b -ᵖ s) (n -ᵖ b) ≡ pos 0
    by = arithℤ (pt ∷ pt ∷ pt ∷ pt ∷ []) (λ s a b n. cross_e (a -E s) (n -E b) := con (pos 0) ⇒ turn_e a b n := con (pos 0) ⇒ cross_e (b -E s) (n -E b) := con (pos 0)) (omega arith)

-- from b to b
pub no_way : (b n : Pt) → cross (b -ᵖ b) (n -ᵖ b) ≡ pos 0
no_way = ring (pt ∷ pt ∷ []) (λ b n. cross_e (b -E b) (n -E b) :≡ con (pos 0)) tt

-- with s before a, in line with a and the corner after it
sweep_turning : (s a : Pt) (l : List Pt) (f : Pt) → cross (a -ᵖ s) (next f l -ᵖ a) ≡ pos 0 → All Nz (way a (l ++ (f ∷ []))) → sweep s (turning a f l) f ≡ cross s a +ℤ sweep a l f
unfolding turning links sumℤ
sweep_turning s a [] f e z = ends s a f (in_line s a f e)
  where
    ends : (s a f : Pt) → cross s f ≡ cross s a +ℤ cross a f → cross s f +ℤ pos 0 ≡ cross s a +ℤ (cross a f +ℤ pos 0)
    ends = arithℤ (pt ∷ pt ∷ pt ∷ []) (λ s a f. cross_e s f := cross_e s a :+ cross_e a f ⇒ cross_e s f :+ con (pos 0) := cross_e s a :+ (cross_e a f :+ con (pos 0))) (omega arith)
sweep_turning s a (b ∷ l) f e z =
    ap (λ k. sweep s k f) (turning_cons a f b l)
    ∙ by_test (eq_z (turn a b (next f l)) (pos 0))
    (λ t.
    let on : cross (b -ᵖ s) (next f l -ᵖ b) ≡ pos 0 = in_line_on s a b (next f l) z.0 e (eq_z_true (turn a b (next f l)) (pos 0) t) in
    rw t (sweep_turning s b l f on z.1 ∙ dropped (cross s a) (cross a b) (cross s b) (sweep b l f) (in_line s a b e)))
    (λ t. rw t (ap (λ k. cross s b +ℤ k) (sweep_turning b b l f (no_way b (next f l)) z.1) ∙ stays b (cross s a) (cross a b) (cross s b) (sweep b l f) (in_line s a b e)))
  where
    dropped : (i j k r : ℤ) → k ≡ i +ℤ j → k +ℤ r ≡ i +ℤ (j +ℤ r)
    dropped = arithℤ (int ∷ int ∷ int ∷ int ∷ []) (λ i j k r. k := i :+ j ⇒ k :+ r := i :+ (j :+ r)) (omega arith)

    stays : (b : Pt) (i j k r : ℤ) → k ≡ i +ℤ j → k +ℤ (cross b b +ℤ r) ≡ i +ℤ (j +ℤ r)
    stays = arithℤ (pt ∷ int ∷ int ∷ int ∷ int ∷ []) (λ b i j k r. k := i :+ j ⇒ k :+ (cross_e b b :+ r) := i :+ (j :+ r)) (omega arith)

-- ---- one direction

pub record Along (w e : Pt) : Type 0 where
  pub flat : cross w e ≡ pos 0
  pub kept : pos 0 <ℤ dot w e

along_forward : {w e : Pt} → Along w e → Forward w e
along_forward a = onward a.flat a.kept

along_nz : {w e : Pt} → Along w e → Nz e
along_nz a = forward_nz_r (along_forward a)

along_refl : {e : Pt} → Nz e → Along e e
along_refl {e} n = record { flat = cross_self e; kept = nz_square n }

along_sym : {w e : Pt} → Along w e → Along e w
along_sym {w} {e} a = record { flat = back w e a.flat; kept = other w e a.kept }
  where
    back : (w e : Pt) → cross w e ≡ pos 0 → cross e w ≡ pos 0
    back = arithℤ (pt ∷ pt ∷ []) (λ w e. cross_e w e := con (pos 0) ⇒ cross_e e w := con (pos 0)) (omega arith)

    other : (w e : Pt) → pos 0 <ℤ dot w e → pos 0 <ℤ dot e w
    other = arithℤ (pt ∷ pt ∷ []) (λ w e. con (pos 0) :< dot_e w e ⇒ con (pos 0) :< dot_e e w) (omega arith)

-- (e · e)(w · g) = (w · e)(e · g) − (e × g)(w × e)
along_trans : {w e g : Pt} → Along w e → Along e g → Along w g
along_trans {w} {e} {g} a b = record {
  flat = line_trans g w (along_nz a) b.flat a.flat;
  kept = pos_cancel (nz_square (along_nz a)) (by w e g (times_zero (cross e g) a.flat) (pos_mul a.kept b.kept));
}
  where
    by : (w e g : Pt) → (cross e g *ℤ cross w e) ≡ pos 0 → pos 0 <ℤ (dot w e *ℤ dot e g) → pos 0 <ℤ (dot e e *ℤ dot w g)
    by = arithℤ (pt ∷ pt ∷ pt ∷ []) (λ w e g. cross_e e g :* cross_e w e := con (pos 0) ⇒ con (pos 0) :< dot_e w e :* dot_e e g ⇒ con (pos 0) :< dot_e e e :* dot_e w g) (omega arith)

-- (w + g) × g = w × g, (w + g) · g = w · g + g · g
along_add : {w g : Pt} → Along w g → Along (w +ᵖ g) g
along_add {w} {g} a = record { flat = cross_part w g a.flat; kept = dot_part w g a.kept (nz_square (along_nz a)) }
  where
    cross_part : (w g : Pt) → cross w g ≡ pos 0 → cross (w +ᵖ g) g ≡ pos 0
    cross_part = arithℤ (pt ∷ pt ∷ []) (λ w g. cross_e w g := con (pos 0) ⇒ cross_e (w +E g) g := con (pos 0)) (omega arith)

    dot_part : (w g : Pt) → pos 0 <ℤ dot w g → pos 0 <ℤ dot g g → pos 0 <ℤ dot (w +ᵖ g) g
    dot_part = arithℤ (pt ∷ pt ∷ []) (λ w g. con (pos 0) :< dot_e w g ⇒ con (pos 0) :< dot_e g g ⇒ con (pos 0) :< dot_e (w +E g) g) (omega arith)

-- the same turn, for edges of the same directions
along_left : {w e h k : Pt} → Along w e → Along k h → pos 0 <ℤ cross e h → pos 0 <ℤ cross w k
along_left {w} {e} {h} {k} a b l = second (first_part (pos_mul a.kept l))
  where
    one : (w e h : Pt) → (dot e h *ℤ cross w e) ≡ pos 0 → pos 0 <ℤ (dot w e *ℤ cross e h) → pos 0 <ℤ (dot e e *ℤ cross w h)
    one = arithℤ (pt ∷ pt ∷ pt ∷ []) (λ w e h. dot_e e h :* cross_e w e := con (pos 0) ⇒ con (pos 0) :< dot_e w e :* cross_e e h ⇒ con (pos 0) :< dot_e e e :* cross_e w h) (omega arith)

    first_part : pos 0 <ℤ (dot w e *ℤ cross e h) → pos 0 <ℤ cross w h
    first_part p = pos_cancel (nz_square (along_nz a)) (one w e h (times_zero (dot e h) a.flat) p)

    two : (w h k : Pt) → (dot w h *ℤ cross k h) ≡ pos 0 → pos 0 <ℤ (dot k h *ℤ cross w h) → pos 0 <ℤ (dot h h *ℤ cross w k)
    two = arithℤ (pt ∷ pt ∷ pt ∷ []) (λ w h k. dot_e w h :* cross_e k h := con (pos 0) ⇒ con (pos 0) :< dot_e k h :* cross_e w h ⇒ con (pos 0) :< dot_e h h :* cross_e w k) (omega arith)

    second : pos 0 <ℤ cross w h → pos 0 <ℤ cross w k
    second p = pos_cancel (nz_square (along_nz b)) (two w h k (times_zero (dot w h) b.flat) (pos_mul b.kept p))

along_half : {w e : Pt} → Along w e → lower w ≡ lower e
along_half {w} {e} a = ((same_dot (forward_nz_l (along_forward a)) (along_nz a)).1 (a.flat, a.kept)).half

-- and the same descent
along_descent : {w e h k : Pt} → Along w e → Along k h → pos 0 <ℤ cross e h → descent w k ≡ descent e h
along_descent {w} {e} {h} {k} a b l =
    let f : Forward w k = leftward (along_left a b l) in
    let g : Forward e h = leftward l in
    descent_halves f ∙ ap₂ rises (along_half a) (along_half b) ∙ sym (descent_halves g)

along_level : {e g : Pt} → Along e g → descent e g ≡ 0
along_level {e} {g} a = descent_halves (along_forward a) ∙ ap (rises (lower e)) (sym (along_half a)) ∙ same (lower e)
  where
    same : (t : Bool) → rises t t ≡ 0
    same true = refl
    same false = refl

-- a turn of 0 that goes forward keeps the direction, any other goes left
straight_along : {e g : Pt} → Forward e g → cross e g ≡ pos 0 → Along e g
straight_along (leftward h) z = absurd (omega zarith)
straight_along (onward c h) z = record { flat = c; kept = h }

turned_left : {e g : Pt} → Forward e g → (cross e g ≡ pos 0 → ⊥) → pos 0 <ℤ cross e g
turned_left (leftward h) z = h
turned_left (onward c h) z = absurd (z c)

-- ---- edges of one direction gathered: u so far, then e, then E

unfoldable first : Pt → Pt → List Pt → Pt
first u e [] = u +ᵖ e
first u e (g ∷ E) = cond (eq_z (cross e g) (pos 0)) (first (u +ᵖ e) g E) (u +ᵖ e)

unfoldable rest : Pt → Pt → List Pt → List Pt
rest u e [] = []
rest u e (g ∷ E) = cond (eq_z (cross e g) (pos 0)) (rest (u +ᵖ e) g E) (first O g E ∷ rest O g E)

-- the first gathered keeps the direction of e
first_along : (u : Pt) {e : Pt} (E : List Pt) (h : Pt) → Along (u +ᵖ e) e → All Onward (links e (E ++ (h ∷ []))) → Along (first u e E) e
unfolding first links
first_along u [] h a o = a
first_along u {e} (g ∷ E) h a o = by_test (eq_z (cross e g) (pos 0))
    (λ t. rw t (let b : Along e g = straight_along o.0 (eq_z_true (cross e g) (pos 0) t) in along_trans (first_along (u +ᵖ e) E h (along_add (along_trans a b)) o.1) (along_sym b)))
    (λ t. rw t a)

-- a turn to the left
abbrev pub Left : Pt × Pt → Type 0
Left t = pos 0 <ℤ cross t.0 t.1

-- the turns of what is gathered are those that are not 0, with the same descents; h is after E, and
-- k, of the same direction, after what is gathered
record Gathered (u e : Pt) (E : List Pt) (h k : Pt) : Type 0 where
  left : All Left (links (first u e E) (rest u e E ++ (k ∷ [])))
  descents : sumℕ (map descent_at (links (first u e E) (rest u e E ++ (k ∷ [])))) ≡ sumℕ (map descent_at (links e (E ++ (h ∷ []))))

gathered : (u : Pt) {e : Pt} (E : List Pt) {h k : Pt} → Along (u +ᵖ e) e → Along k h → All Onward (links e (E ++ (h ∷ []))) → pos 0 <ℤ cross (last_of e E) h → Gathered u e E h k
unfolding first rest links last_of sumℕ
gathered u [] a b o l = record { left = (along_left a b l, tt); descents = ap (λ n. n + 0) (along_descent a b l) }
gathered u {e} (g ∷ E) {h} a b o l = by_test (eq_z (cross e g) (pos 0))
    (λ t.
    let c : Along e g = straight_along o.0 (eq_z_true (cross e g) (pos 0) t) in
    let r = gathered (u +ᵖ e) E (along_add (along_trans a c)) b o.1 l in
    record { left = rw t r.left; descents = rw t (r.descents ∙ omega (arith, along_level c)) })
    (λ t.
    let n : Nz g = forward_nz_r o.0 in
    let c : Along (O +ᵖ g) g = rw zero-+ᵖ (along_refl n) in
    let d : pos 0 <ℤ cross e g = turned_left o.0 (eq_z_false t) in
    let f : Along (first O g E) g = first_along O E h c o.1 in
    let r = gathered O E c b o.1 l in
    record { left = rw t (along_left a f d, r.left); descents = rw t (ap₂ ◌+◌ (along_descent a f d) r.descents) })

-- ---- the edges of the corners that stay are the edges gathered

-- s to b is s to a and a to b
by_way : (s a b : Pt) → b -ᵖ s ≡ (a -ᵖ s) +ᵖ (b -ᵖ a)
by_way = ringᵖ (pt ∷ pt ∷ pt ∷ []) (λ s a b. b -E s :≡ᵖ (a -E s) +E (b -E a)) tt

none_yet : (b : Pt) → b -ᵖ b ≡ O
none_yet = ringᵖ (pt ∷ []) (λ b. b -E b :≡ᵖ OE) tt

-- with s before a, nothing between them staying
way_gathered : (s a : Pt) (l : List Pt) (f : Pt) → way s (turning a f l ++ (f ∷ [])) ≡ first (a -ᵖ s) (next f l -ᵖ a) (later f l) ∷ rest (a -ᵖ s) (next f l -ᵖ a) (later f l)
unfolding turning links first rest
way_gathered s a [] f = ap (λ e. e ∷ []) (by_way s a f)
way_gathered s a (b ∷ l) f =
    ap (λ k. way s (k ++ (f ∷ []))) (turning_cons a f b l)
    ∙ by_test (eq_z (turn a b (next f l)) (pos 0))
    (λ t. rw (way_cons b f l, t) (way_gathered s b l f ∙ ap (λ u. first u (next f l -ᵖ b) (later f l) ∷ rest u (next f l -ᵖ b) (later f l)) (by_way s a b)))
    (λ t. rw (way_cons b f l, t) (ap₂ ◌∷◌ (by_way s a b) (way_gathered b b l f ∙ ap (λ u. first u (next f l -ᵖ b) (later f l) ∷ rest u (next f l -ᵖ b) (later f l)) (none_yet b))))

-- the last edge of the way from q through l to x
last_way : (q : Pt) (l : List Pt) (x : Pt) → last_of (next x l -ᵖ q) (later x l) ≡ x -ᵖ last_of q l
unfolding last_of
last_way q [] x = refl
last_way q (c ∷ l) x = rw (way_cons c x l) (last_way c l x)

-- ---- the closed list

-- round a closed list of edges: every turn above 0, one a descent
pub record Strict (E : List Pt) : Type 0 where
  pub left : All Left (neighbours E)
  pub once : sumℕ (map descent_at (neighbours E)) ≡ 1

-- the first corner stays
pub straight_first : (p c : Pt) (l : List Pt) → Sharp (p ∷ c ∷ l) → without_straight (p ∷ c ∷ l) ≡ p ∷ turning p p (c ∷ l)
unfolding without_straight last_of turning
straight_first p c l h = rw (≢-eq_z {x = turn (last_of c l) p c} {y = pos 0} (λ e. omega zarith))

-- the edges of a contour that goes round are not zero
pub round_nz : {E : List Pt} → Round E → All Nz E
round_nz {E} r = subst (All Nz) (firsts_neighbours E) ((all_image Nz (λ t. t.0) (neighbours E)).1 (all_map (neighbours E) (λ t f. forward_nz_l f) r.forward))

pub edges_cons : (p : Pt) (l : List Pt) → edges (p ∷ l) ≡ way p (l ++ (p ∷ []))
unfolding edges neighbours
edges_cons p l = refl

-- s × a + a × b = s × b along each line
pub straight_area : (l : List Pt) → Sharp l → Round (edges l) → contour_area (without_straight l) ≡ contour_area l
unfolding contour_area neighbours
straight_area [] h r = absurd h
straight_area (p ∷ []) h r = absurd h
straight_area (p ∷ c ∷ l) h r =
    let z : All Nz (way p ((c ∷ l) ++ (p ∷ []))) = subst (All Nz) (edges_cons p (c ∷ l)) (round_nz r) in
    ap contour_area (straight_first p c l h) ∙ sweep_turning p p (c ∷ l) p (no_way p c) z ∙ alone p (sweep p (c ∷ l) p)
  where
    alone : (p : Pt) (k : ℤ) → cross p p +ℤ k ≡ k
    alone = ring (pt ∷ int ∷ []) (λ p k. cross_e p p :+ k :≡ k) tt

-- of a closed list of edges, the last of which turns left to the first
round_gathered : {e : Pt} {E : List Pt} → Round (e ∷ E) → pos 0 <ℤ cross (last_of e E) e → Strict (first O e E ∷ rest O e E)
unfolding neighbours
round_gathered {e} {E} r l =
    let a : Along (O +ᵖ e) e = rw zero-+ᵖ (along_refl (round_nz r).0) in
    let g = gathered O E a (first_along O E e a r.forward) r.forward l in
    record { left = g.left; once = g.descents ∙ r.once }

-- the edges that stay are gathered ones
pub straight_round : (l : List Pt) → Sharp l → Round (edges l) → Strict (edges (without_straight l))
straight_round [] h r = absurd h
straight_round (p ∷ []) h r = absurd h
straight_round (p ∷ c ∷ l) h r =
    subst Strict (sym stay) (round_gathered (subst Round all r) (subst (λ a. pos 0 <ℤ cross a e) (sym (last_way p (c ∷ l) p)) (unfold last_of in h)))
  where
    e : Pt
    e = c -ᵖ p

    E : List Pt
    E = later p (c ∷ l)

    all : edges (p ∷ c ∷ l) ≡ e ∷ E
    all = edges_cons p (c ∷ l) ∙ way_cons p p (c ∷ l)

    stay : edges (without_straight (p ∷ c ∷ l)) ≡ first O e E ∷ rest O e E
    stay =
        ap edges (straight_first p c l h) ∙ edges_cons p (turning p p (c ∷ l)) ∙ way_gathered p p (c ∷ l) p
        ∙ ap (λ u. first u e E ∷ rest u e E) (none_yet p)
