-- Linear forms d × z + a q, for the sides of edges. Those above 0 at a point stay so near it: in
-- one direction (`near_by`) and in a square about it (`steady`), which is itself the points where
-- four forms are above 0 (`box_own`, `box_near`); near it there is a point at which no form of a
-- second list is 0 (`general`); forms seen from a moved piece (`moved_val`). Assumes nothing.
use mathlib.Core.Path.{◌≡◌, sym, ◌∙◌, ap}
use mathlib.Core.List.{List, [], ◌∷◌}
use mathlib.Core.Logic.{◌⊎◌, inl, inr, ⊎_elim}
use Prim.Native.Nat.{suc}
use native.Mathlib.Omega.{arith}
use lib.IntN.{ℤ, pos, negsuc, neg_ℤ, ◌+ℤ◌, ◌-ℤ◌, ◌*ℤ◌}
use lib.Signed.{◌≤ℤ◌, ◌<ℤ◌, ≤ℤ_refl}
use Rattle.integers.specs.Lists.{All}
use Rattle.integers.proofs.Ring.{con, ◌:+◌, ◌:-◌, ◌:*◌, :neg, ◌:≡◌, pt, int, ring}
use Rattle.integers.proofs.Order.{zarith, add_parts, sub_parts, neg_parts, <-≤, ≤_trans, sub_of_≤, ≤_or_>, negative, null, positive, sign}
use Rattle.integers.proofs.Arith.{◌:≤◌, ◌:<◌, ◌⇒◌, arithℤ}
use Rattle.integers.proofs.Signs.{nn_add, nn_mul, nn_is, pos_add, pos_mul, pos_is, pos_cancel, zero_cancel}
use Rattle.integers.proofs.Elements.{all_map}
use Rattle.plane.specs.Plane.{Pt, O, ◌+ᵖ◌, ◌-ᵖ◌, negᵖ, cross, dot, rot}
use Rattle.plane.proofs.Terms.{OE, ◌+E◌, ◌-E◌, neg_e, cross_e, dot_e, rot_e}
use Rattle.plane.proofs.Vectors.{pt_eq}
use Rattle.plane.proofs.Directions.{nz_cases, same_dot, same_refl}
use Rattle.cover.specs.Inside.{◌·ᵖ◌}
use Rattle.cover.specs.Wholes.{AtMost, Near}
use Rattle.cover.proofs.Edges.{◌·E◌}

pub record Form : Type 0 where
  pub d : Pt
  pub a : ℤ

abbrev pub val : Form → ℤ → Pt → ℤ
val f q z = cross f.d z +ℤ f.a *ℤ q

-- ---- a number large enough

pub record Large (Fs : List Form) (q : ℤ) (z : Pt) (q0 : ℤ) (z0 : Pt) : Type 0 where
  n : ℤ
  above : pos 0 <ℤ n
  all : (m : ℤ) → n ≤ℤ m → All (λ f. pos 0 <ℤ (m *ℤ val f q z +ℤ val f q0 z0)) Fs

record Sized (y : ℤ) : Type 0 where
  n : ℤ
  above : pos 0 <ℤ n
  more : pos 0 <ℤ (n +ℤ y)

sized : (y : ℤ) → Sized y
sized (pos k) = record { n = pos 1; above = omega zarith; more = omega (zarith, add_parts (pos 1) (pos k)) }
sized (negsuc k) = record { n = pos (suc (suc k)); above = omega zarith; more = omega (zarith, add_parts (pos (suc (suc k))) (negsuc k)) }

-- a number past a sum is past both
first : {a b m : ℤ} → pos 0 <ℤ b → (a +ℤ b) ≤ℤ m → a ≤ℤ m
first {a} {b} h k = omega (zarith, add_parts a b)

second : {a b m : ℤ} → pos 0 <ℤ a → (a +ℤ b) ≤ℤ m → b ≤ℤ m
second {a} {b} h k = omega (zarith, add_parts a b)

less_one : {x : ℤ} → pos 0 <ℤ x → pos 0 ≤ℤ (x -ℤ pos 1)
less_one {x} h = omega (zarith, sub_parts x (pos 1))

-- m x + y = m (x - 1) + (m - n) + (n + y)
enough : {m n x : ℤ} (y : ℤ) → pos 0 <ℤ n → n ≤ℤ m → pos 0 <ℤ x → pos 0 <ℤ (n +ℤ y) → pos 0 <ℤ (m *ℤ x +ℤ y)
enough {m} {n} {x} y hn h hx hy =
    pos_is (apart m n x y) (pos_add hy (nn_add (sub_of_≤ h) (nn_mul (≤_trans (<-≤ hn) h) (less_one hx))))
  where
    apart : (m n x y : ℤ) → m *ℤ x +ℤ y ≡ (n +ℤ y) +ℤ ((m -ℤ n) +ℤ m *ℤ (x -ℤ pos 1))
    apart = ring (int ∷ int ∷ int ∷ int ∷ []) (λ m n x y. m :* x :+ y :≡ (n :+ y) :+ ((m :- n) :+ m :* (x :- con (pos 1)))) tt

large : (Fs : List Form) (q : ℤ) (z : Pt) (q0 : ℤ) (z0 : Pt) → All (λ f. pos 0 <ℤ val f q z) Fs → Large Fs q z q0 z0
large [] q z q0 z0 h = record { n = pos 1; above = omega zarith; all = λ m k. tt }
large (f ∷ Fs) q z q0 z0 h =
    let r = large Fs q z q0 z0 h.1 in
    let s = sized (val f q0 z0) in
    record {
      n = r.n +ℤ s.n;
      above = pos_add r.above (<-≤ s.above);
      all = λ m k. (enough (val f q0 z0) s.above (second r.above k) h.0 s.more, r.all m (first s.above k));
    }

-- ---- near a point, in one direction

pub record Toward (Fs : List Form) (q : ℤ) (z : Pt) (q0 : ℤ) (z0 : Pt) : Type 0 where
  pub n : ℤ
  pub above : pos 0 <ℤ n
  pub high : pos 0 <ℤ (n *ℤ q +ℤ q0)
  pub all : All (λ f. pos 0 <ℤ val f (n *ℤ q +ℤ q0) (n ·ᵖ z +ᵖ z0)) Fs

val_add : (f : Form) (n q : ℤ) (z : Pt) (q0 : ℤ) (z0 : Pt) → val f (n *ℤ q +ℤ q0) (n ·ᵖ z +ᵖ z0) ≡ n *ℤ val f q z +ℤ val f q0 z0
val_add f = of f.d f.a
  where
    of : (d : Pt) (a n q : ℤ) (z : Pt) (q0 : ℤ) (z0 : Pt) → cross d (n ·ᵖ z +ᵖ z0) +ℤ a *ℤ (n *ℤ q +ℤ q0) ≡ n *ℤ (cross d z +ℤ a *ℤ q) +ℤ (cross d z0 +ℤ a *ℤ q0)
    of = ring (pt ∷ int ∷ int ∷ int ∷ pt ∷ int ∷ pt ∷ []) (λ d a n q z q0 z0. cross_e d (n ·E z +E z0) :+ a :* (n :* q :+ q0) :≡ n :* (cross_e d z :+ a :* q) :+ (cross_e d z0 :+ a :* q0)) tt

-- q itself is a form
abbrev count : Form
count = record { d = O; a = pos 1 }

pub near_by : (Fs : List Form) {q : ℤ} (z : Pt) (q0 : ℤ) (z0 : Pt) → pos 0 <ℤ q → All (λ f. pos 0 <ℤ val f q z) Fs → Toward Fs q z q0 z0
near_by Fs {q} z q0 z0 hq h =
    let l = large (count ∷ Fs) q z q0 z0 (pos_is (only q z) hq, h) in
    let k = l.all l.n (≤ℤ_refl l.n) in
    record {
      n = l.n;
      above = l.above;
      high = pos_is (sym (only (l.n *ℤ q +ℤ q0) (l.n ·ᵖ z +ᵖ z0)) ∙ val_add count l.n q z q0 z0) k.0;
      all = all_map Fs (λ f g. pos_is (val_add f l.n q z q0 z0) g) k.1;
    }
  where
    only : (q : ℤ) (z : Pt) → cross O z +ℤ pos 1 *ℤ q ≡ q
    only = ring (int ∷ pt ∷ []) (λ q z. cross_e OE z :+ con (pos 1) :* q :≡ q) tt

-- ---- a point at which no form of Es is 0

abbrev pub opposite : Form → Form
opposite f = record { d = negᵖ f.d; a = neg_ℤ f.a }

pub record Off (Fs Es : List Form) : Type 0 where
  pub q : ℤ
  pub z : Pt
  pub above : pos 0 <ℤ q
  pub all : All (λ f. pos 0 <ℤ val f q z) Fs
  pub off : All (λ f. (pos 0 <ℤ val f q z) ⊎ (val f q z <ℤ pos 0)) Es

turned_up : (d : Pt) (a q : ℤ) (z : Pt) → (cross d z +ℤ a *ℤ q) <ℤ pos 0 → pos 0 <ℤ (cross (negᵖ d) z +ℤ neg_ℤ a *ℤ q)
turned_up = arithℤ (pt ∷ int ∷ int ∷ pt ∷ []) (λ d a q z. cross_e d z :+ a :* q :< con (pos 0) ⇒ con (pos 0) :< cross_e (neg_e d) z :+ :neg a :* q) (omega arith)

turned_down : (d : Pt) (a q : ℤ) (z : Pt) → pos 0 <ℤ (cross (negᵖ d) z +ℤ neg_ℤ a *ℤ q) → (cross d z +ℤ a *ℤ q) <ℤ pos 0
turned_down = arithℤ (pt ∷ int ∷ int ∷ pt ∷ []) (λ d a q z. con (pos 0) :< cross_e (neg_e d) z :+ :neg a :* q ⇒ cross_e d z :+ a :* q :< con (pos 0)) (omega arith)

-- d × rot d = d · d
pub square : {d : Pt} → (d ≡ O → ⊥) → pos 0 <ℤ dot d d
square {d} h = ⊎_elim (λ e. absurd (h e)) (λ n. ((same_dot n n).0 (same_refl d)).1) (nz_cases d)

aside : (d : Pt) (a n q : ℤ) (z : Pt) → (cross d z +ℤ a *ℤ q) ≡ pos 0 → cross d (n ·ᵖ z +ᵖ rot d) +ℤ a *ℤ (n *ℤ q +ℤ pos 0) ≡ dot d d
aside d a n q z e = val_add (record { d = d; a = a }) n q z (pos 0) (rot d) ∙ ap (λ x. n *ℤ x +ℤ (cross d (rot d) +ℤ a *ℤ pos 0)) e ∙ rest d a n
  where
    rest : (d : Pt) (a n : ℤ) → n *ℤ pos 0 +ℤ (cross d (rot d) +ℤ a *ℤ pos 0) ≡ dot d d
    rest = ring (pt ∷ int ∷ int ∷ []) (λ d a n. n :* con (pos 0) :+ (cross_e d (rot_e d) :+ a :* con (pos 0)) :≡ dot_e d d) tt

pub general : (Es : List Form) → All (λ f. f.d ≡ O → ⊥) Es → (Fs : List Form) {q : ℤ} (z : Pt) → pos 0 <ℤ q → All (λ f. pos 0 <ℤ val f q z) Fs → Off Fs Es
general [] n Fs {q} z hq h = record { q = q; z = z; above = hq; all = h; off = tt }
general (e ∷ Es) n Fs {q} z hq h = elim (sign (val e q z)) [
  | positive k ↦ let o = general Es n.1 (e ∷ Fs) z hq (k, h) in record { q = o.q; z = o.z; above = o.above; all = o.all.1; off = (inl o.all.0, o.off) }
  | negative k ↦
      let o = general Es n.1 (opposite e ∷ Fs) z hq (turned_up e.d e.a q z k, h) in
      record { q = o.q; z = o.z; above = o.above; all = o.all.1; off = (inr (turned_down e.d e.a o.q o.z o.all.0), o.off) }
  | null k ↦
      let w = near_by Fs z (pos 0) (rot e.d) hq h in
      let o = general Es n.1 (e ∷ Fs) (w.n ·ᵖ z +ᵖ rot e.d) w.high (pos_is (aside e.d e.a w.n q z k) (square n.0), w.all) in
      record { q = o.q; z = o.z; above = o.above; all = o.all.1; off = (inl o.all.0, o.off) }
]

-- ---- in a square about a point

-- a number whose multiple of b is past d y, for every |y| ≤ b
record Bound (d : ℤ) : Type 0 where
  size : ℤ
  least : pos 0 ≤ℤ size
  holds : (b y : ℤ) → AtMost b y → pos 0 ≤ℤ (size *ℤ b +ℤ d *ℤ y)

bound : (d : ℤ) → Bound d
bound d = ⊎_elim
    (λ h. record { size = d; least = h; holds = λ b y k. nn_is (up d b y) (nn_mul h (low k)) })
    (λ h. record { size = neg_ℤ d; least = turned h; holds = λ b y k. nn_is (down d b y) (nn_mul (turned h) (sub_of_≤ k.1)) })
    (≤_or_> (pos 0) d)
  where
    up : (d b y : ℤ) → d *ℤ b +ℤ d *ℤ y ≡ d *ℤ (b +ℤ y)
    up = ring (int ∷ int ∷ int ∷ []) (λ d b y. d :* b :+ d :* y :≡ d :* (b :+ y)) tt

    down : (d b y : ℤ) → neg_ℤ d *ℤ b +ℤ d *ℤ y ≡ neg_ℤ d *ℤ (b -ℤ y)
    down = ring (int ∷ int ∷ int ∷ []) (λ d b y. :neg d :* b :+ d :* y :≡ :neg d :* (b :- y)) tt

    low : {b y : ℤ} → AtMost b y → pos 0 ≤ℤ (b +ℤ y)
    low {b} {y} k = omega (zarith, add_parts b y, neg_parts b, k.0)

    turned : {d : ℤ} → d <ℤ pos 0 → pos 0 ≤ℤ neg_ℤ d
    turned {d} h = omega (zarith, neg_parts d)

pub record Steady (Fs : List Form) (q : ℤ) (z : Pt) : Type 0 where
  pub n : ℤ
  pub above : pos 0 <ℤ n
  pub all : (m : ℤ) → n ≤ℤ m → (p : ℤ) (w : Pt) → pos 0 <ℤ p → Near m q z p w → All (λ f. pos 0 <ℤ val f p w) Fs

-- m q val f p w = p + (i p q + d.x Y) + (j p q - d.y X) + m p (val f q z - 1) + (m - n) p, where X
-- and Y are what `Near` bounds and n = (i + j) q + 1
module _ (f : Form) (q : ℤ) (z : Pt) (hq : pos 0 <ℤ q) (hf : pos 0 <ℤ val f q z) where
  abbrev bound_x : Bound f.d.x
  bound_x = bound f.d.x

  abbrev bound_y : Bound (neg_ℤ f.d.y)
  bound_y = bound (neg_ℤ f.d.y)

  abbrev enough_near : ℤ
  enough_near = pos 1 +ℤ (bound_x.size +ℤ bound_y.size) *ℤ q

  enough_above : pos 0 <ℤ enough_near
  enough_above = pos_add {a = pos 1} (omega zarith) (nn_mul (nn_add bound_x.least bound_y.least) (<-≤ hq))

  form_steady : {m : ℤ} → enough_near ≤ℤ m → {p : ℤ} {w : Pt} → pos 0 <ℤ p → Near m q z p w → pos 0 <ℤ val f p w
  form_steady {m} h {p} {w} hp c =
      let hm : pos 0 <ℤ m = past enough_above h in
      pos_cancel (pos_mul hm hq)
      (pos_is (apart f.d f.a q z m p w bound_x.size bound_y.size)
      (pos_add hp (nn_add (bound_x.holds (p *ℤ q) (m *ℤ (q *ℤ w.y -ℤ p *ℤ z.y)) c.upward) (nn_add (bound_y.holds (p *ℤ q) (m *ℤ (q *ℤ w.x -ℤ p *ℤ z.x)) c.across)
      (nn_add (nn_mul (<-≤ (pos_mul hm hp)) (less_one hf)) (nn_mul (sub_of_≤ h) (<-≤ hp)))))))
    where
      past : {n m : ℤ} → pos 0 <ℤ n → n ≤ℤ m → pos 0 <ℤ m
      past h k = omega zarith

      apart : (d : Pt) (a q : ℤ) (z : Pt) (m p : ℤ) (w : Pt) (i j : ℤ)
          → (m *ℤ q) *ℤ (cross d w +ℤ a *ℤ p) ≡ p +ℤ ((i *ℤ (p *ℤ q) +ℤ d.x *ℤ (m *ℤ (q *ℤ w.y -ℤ p *ℤ z.y))) +ℤ ((j *ℤ (p *ℤ q) +ℤ neg_ℤ d.y *ℤ (m *ℤ (q *ℤ w.x -ℤ p *ℤ z.x)))
          +ℤ ((m *ℤ p) *ℤ ((cross d z +ℤ a *ℤ q) -ℤ pos 1) +ℤ (m -ℤ (pos 1 +ℤ (i +ℤ j) *ℤ q)) *ℤ p)))
      apart = ring (pt ∷ int ∷ int ∷ pt ∷ int ∷ int ∷ pt ∷ int ∷ int ∷ []) (λ d a q z m p w i j. (m :* q) :* (cross_e d w :+ a :* p) :≡ p :+ ((i :* (p :* q) :+ d.x :* (m :* (q :* w.y :- p :* z.y))) :+ ((j :* (p :* q) :+ :neg d.y :* (m :* (q :* w.x :- p :* z.x)))
          :+ ((m :* p) :* ((cross_e d z :+ a :* q) :- con (pos 1)) :+ (m :- (con (pos 1) :+ (i :+ j) :* q)) :* p)))) tt

pub steady : (Fs : List Form) {q : ℤ} (z : Pt) → pos 0 <ℤ q → All (λ f. pos 0 <ℤ val f q z) Fs → Steady Fs q z
steady [] z hq h = record { n = pos 1; above = omega zarith; all = λ m k p w hp c. tt }
steady (f ∷ Fs) {q} z hq h =
    let r = steady Fs z hq h.1 in
    let n : ℤ = enough_near f q z hq h.0 in
    let above : pos 0 <ℤ n = enough_above f q z hq h.0 in
    record {
      n = r.n +ℤ n;
      above = pos_add r.above (<-≤ above);
      all = λ m k p w hp c. (form_steady f q z hq h.0 (second r.above k) hp c, r.all m (first above k) p w hp c);
    }

-- the square as four forms, each q² at its middle
abbrev pub box : ℤ → ℤ → Pt → List Form
box n q z =
    record { d = record { x = pos 0; y = n *ℤ q }; a = q +ℤ n *ℤ z.x } ∷ record { d = record { x = pos 0; y = neg_ℤ (n *ℤ q) }; a = q -ℤ n *ℤ z.x }
    ∷ record { d = record { x = neg_ℤ (n *ℤ q); y = pos 0 }; a = q +ℤ n *ℤ z.y } ∷ record { d = record { x = n *ℤ q; y = pos 0 }; a = q -ℤ n *ℤ z.y } ∷ []

pub box_own : (n : ℤ) {q : ℤ} (z : Pt) → pos 0 <ℤ q → All (λ f. pos 0 <ℤ val f q z) (box n q z)
box_own n {q} z hq = let s = pos_mul hq hq in (pos_is (right n q z) s, (pos_is (left n q z) s, (pos_is (top n q z) s, (pos_is (bottom n q z) s, tt))))
  where
    right : (n q : ℤ) (z : Pt) → cross (record { x = pos 0; y = n *ℤ q }) z +ℤ (q +ℤ n *ℤ z.x) *ℤ q ≡ q *ℤ q
    right = ring (int ∷ int ∷ pt ∷ []) (λ n q z. cross_e (record { x = con (pos 0); y = n :* q }) z :+ (q :+ n :* z.x) :* q :≡ q :* q) tt

    left : (n q : ℤ) (z : Pt) → cross (record { x = pos 0; y = neg_ℤ (n *ℤ q) }) z +ℤ (q -ℤ n *ℤ z.x) *ℤ q ≡ q *ℤ q
    left = ring (int ∷ int ∷ pt ∷ []) (λ n q z. cross_e (record { x = con (pos 0); y = :neg (n :* q) }) z :+ (q :- n :* z.x) :* q :≡ q :* q) tt

    top : (n q : ℤ) (z : Pt) → cross (record { x = neg_ℤ (n *ℤ q); y = pos 0 }) z +ℤ (q +ℤ n *ℤ z.y) *ℤ q ≡ q *ℤ q
    top = ring (int ∷ int ∷ pt ∷ []) (λ n q z. cross_e (record { x = :neg (n :* q); y = con (pos 0) }) z :+ (q :+ n :* z.y) :* q :≡ q :* q) tt

    bottom : (n q : ℤ) (z : Pt) → cross (record { x = n *ℤ q; y = pos 0 }) z +ℤ (q -ℤ n *ℤ z.y) *ℤ q ≡ q *ℤ q
    bottom = ring (int ∷ int ∷ pt ∷ []) (λ n q z. cross_e (record { x = n :* q; y = con (pos 0) }) z :+ (q :- n :* z.y) :* q :≡ q :* q) tt

pub box_near : {n q : ℤ} {z : Pt} {p : ℤ} {w : Pt} → All (λ f. pos 0 <ℤ val f p w) (box n q z) → Near n q z p w
box_near {n} {q} {z} {p} {w} h = record { across = (left n q z p w h.1.0, right n q z p w h.0); upward = (bottom n q z p w h.1.1.1.0, top n q z p w h.1.1.0) }
  where
    right : (n q : ℤ) (z : Pt) (p : ℤ) (w : Pt) → pos 0 <ℤ (cross (record { x = pos 0; y = n *ℤ q }) w +ℤ (q +ℤ n *ℤ z.x) *ℤ p) → (n *ℤ (q *ℤ w.x -ℤ p *ℤ z.x)) ≤ℤ (p *ℤ q)
    right = arithℤ (int ∷ int ∷ pt ∷ int ∷ pt ∷ []) (λ n q z p w. con (pos 0) :< cross_e (record { x = con (pos 0); y = n :* q }) w :+ (q :+ n :* z.x) :* p ⇒ n :* (q :* w.x :- p :* z.x) :≤ p :* q) (omega arith)

    left : (n q : ℤ) (z : Pt) (p : ℤ) (w : Pt) → pos 0 <ℤ (cross (record { x = pos 0; y = neg_ℤ (n *ℤ q) }) w +ℤ (q -ℤ n *ℤ z.x) *ℤ p) → neg_ℤ (p *ℤ q) ≤ℤ (n *ℤ (q *ℤ w.x -ℤ p *ℤ z.x))
    left = arithℤ (int ∷ int ∷ pt ∷ int ∷ pt ∷ []) (λ n q z p w. con (pos 0) :< cross_e (record { x = con (pos 0); y = :neg (n :* q) }) w :+ (q :- n :* z.x) :* p ⇒ :neg (p :* q) :≤ n :* (q :* w.x :- p :* z.x)) (omega arith)

    top : (n q : ℤ) (z : Pt) (p : ℤ) (w : Pt) → pos 0 <ℤ (cross (record { x = neg_ℤ (n *ℤ q); y = pos 0 }) w +ℤ (q +ℤ n *ℤ z.y) *ℤ p) → (n *ℤ (q *ℤ w.y -ℤ p *ℤ z.y)) ≤ℤ (p *ℤ q)
    top = arithℤ (int ∷ int ∷ pt ∷ int ∷ pt ∷ []) (λ n q z p w. con (pos 0) :< cross_e (record { x = :neg (n :* q); y = con (pos 0) }) w :+ (q :+ n :* z.y) :* p ⇒ n :* (q :* w.y :- p :* z.y) :≤ p :* q) (omega arith)

    bottom : (n q : ℤ) (z : Pt) (p : ℤ) (w : Pt) → pos 0 <ℤ (cross (record { x = n *ℤ q; y = pos 0 }) w +ℤ (q -ℤ n *ℤ z.y) *ℤ p) → neg_ℤ (p *ℤ q) ≤ℤ (n *ℤ (q *ℤ w.y -ℤ p *ℤ z.y))
    bottom = arithℤ (int ∷ int ∷ pt ∷ int ∷ pt ∷ []) (λ n q z p w. con (pos 0) :< cross_e (record { x = n :* q; y = con (pos 0) }) w :+ (q :- n :* z.y) :* p ⇒ :neg (p :* q) :≤ n :* (q :* w.y :- p :* z.y)) (omega arith)

-- ---- a piece moved by z/q

-- at u/p the value of f at u/p - z/q
abbrev pub moved_form : ℤ → Pt → Form → Form
moved_form q z f = record { d = q ·ᵖ f.d; a = f.a *ℤ q -ℤ cross f.d z }

pub moved_val : (q : ℤ) (z : Pt) (f : Form) (p : ℤ) (u : Pt) → val (moved_form q z f) p u ≡ val f (p *ℤ q) (q ·ᵖ u -ᵖ p ·ᵖ z)
moved_val q z f p u = of q z f.d f.a p u
  where
    of : (q : ℤ) (z d : Pt) (a p : ℤ) (u : Pt) → cross (q ·ᵖ d) u +ℤ (a *ℤ q -ℤ cross d z) *ℤ p ≡ cross d (q ·ᵖ u -ᵖ p ·ᵖ z) +ℤ a *ℤ (p *ℤ q)
    of = ring (int ∷ pt ∷ pt ∷ int ∷ int ∷ pt ∷ []) (λ q z d a p u. cross_e (q ·E d) u :+ (a :* q :- cross_e d z) :* p :≡ cross_e d (q ·E u -E p ·E z) :+ a :* (p :* q)) tt

pub moved_nonzero : {q : ℤ} (z : Pt) → pos 0 <ℤ q → (f : Form) → (f.d ≡ O → ⊥) → (moved_form q z f).d ≡ O → ⊥
moved_nonzero z hq f n e = n (pt_eq (zero_cancel hq (ap (λ v. v.x) e)) (zero_cancel hq (ap (λ v. v.y) e)))
