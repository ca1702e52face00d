-- A path judged item by item, and as a whole, as the code does it. Assumes nothing.
use Rattle.std.specs.Prelude.{Bool, true, false, cond, not, ◌&&◌, List, [], ◌∷◌, ℕ, ◌-◌, ◌/◌, eqb, ltb}
use Rattle.integers.specs.Faults.{first_fault, fault_path, fault_rules, fault_range, fault_corner_room}
use Rattle.table.specs.Table.{max_contour}
use Rattle.path.specs.declared.PathItem.{PathItem}
use Rattle.path.specs.declared.PathItem.TheVariants.{Move, Line, Horizontal, Vertical, RelativeLine, Close}
use Rattle.path.specs.declared.Stage.{Stage}
use Rattle.path.specs.declared.Stage.TheVariants.{Opening, Inside, Closed, Broken}
use Rattle.path.specs.declared.Point.{Point}
use Rattle.path.specs.declared.Frame.{Frame}
use Rattle.path.specs.declared.Judged.{Judged}
use Rattle.path.specs.declared.PathCounts.{PathCounts}
use Rattle.path.specs.Path.{every, reach, closes, initial_point, path_points, in_order, is_given, framed, is_within, is_on_grid, counts_of}

-- the stage behind a move, behind a line of any kind, behind a close
abbrev pub moved : Stage → Stage
moved Opening = Inside
moved Inside = Broken
moved Closed = Broken
moved Broken = Broken

abbrev pub drawn : Stage → Stage
drawn Opening = Broken
drawn Inside = Inside
drawn Closed = Broken
drawn Broken = Broken

abbrev pub ended : Stage → Stage
ended Opening = Broken
ended Inside = Closed
ended Closed = Broken
ended Broken = Broken

abbrev pub stage_after : Stage → PathItem → Stage
stage_after s (Move x y) = moved s
stage_after s (Line x y) = drawn s
stage_after s (Horizontal x) = drawn s
stage_after s (Vertical y) = drawn s
stage_after s (RelativeLine x y) = drawn s
stage_after s Close = ended s

abbrev pub is_closed : Stage → Bool
is_closed Opening = false
is_closed Inside = false
is_closed Closed = true
is_closed Broken = false

-- a path is in order where its stages, from the first, end with the close
unfoldable pub ordered_from : Stage → List PathItem → Bool
ordered_from s [] = is_closed s
ordered_from s (i ∷ is) = ordered_from (stage_after s i) is

-- at a point, in a stage, with or without a coordinate out of range before
abbrev pub standing : Frame → Bool → Stage → Point → Judged
standing f off stage p = record { stage = cond (is_within p) stage Broken; off = cond (is_on_grid f p) off true; at = p }

-- behind one item more
abbrev pub judge_item : Frame → Judged → PathItem → Judged
judge_item f s i =
    cond (closes i)
    (record { stage = stage_after s.stage i; off = s.off; at = s.at })
    (standing f s.off (stage_after s.stage i) (reach s.at i))

unfoldable pub judge_from : Frame → Judged → List PathItem → Judged
judge_from f s [] = s
judge_from f s (i ∷ is) = judge_from f (judge_item f s i) is

-- before the first item
abbrev pub begun : Judged
begun = record { stage = Opening; off = false; at = initial_point }

-- a move or a line whose numbers are finite
abbrev pub is_drawn : PathItem → Bool
is_drawn i = not (closes i) && is_given i

abbrev pub moves : PathItem → Bool
moves (Move x y) = true
moves (Line x y) = false
moves (Horizontal x) = false
moves (Vertical y) = false
moves (RelativeLine x y) = false
moves Close = false

-- what may stand in a path before its close: the move at first, a line behind it
abbrev pub is_next : Bool → PathItem → Bool
is_next first i = is_drawn i && cond first (moves i) (not (moves i))

-- in order, and every point within the range
abbrev pub is_ordered : List PathItem → Bool
is_ordered is = in_order is && every is_within (path_points is)

-- of a path out of order
abbrev pub broken : Judged
broken = record { stage = Broken; off = false; at = initial_point }

-- of a path in order, with or without a coordinate out of range
abbrev pub closed : Bool → Judged
closed off = record { stage = Closed; off = off; at = initial_point }

-- a path as a whole: where it is out of order no coordinate is looked at
unfoldable pub judged_whole : Frame → List PathItem → Judged
judged_whole f is = cond (is_ordered is) (closed (not (every (is_on_grid f) (path_points is)))) broken

-- the fault of a path of n items that was judged so: in order, it has a corner for each item but
-- the last
abbrev pub judged_fault : Frame → Judged → ℕ → ℕ → ℕ
judged_fault f s n room =
    first_fault ((fault_path, not (framed f && (is_closed s.stage && not (eqb n 0))))
    ∷ (fault_rules, ltb max_contour (n - 1))
    ∷ (fault_range, s.off)
    ∷ (fault_corner_room, ltb (room / 2) (n - 1))
    ∷ [])

unfoldable pub judged_counts : Frame → Judged → ℕ → ℕ → PathCounts
judged_counts f s n room = counts_of (judged_fault f s n room) (n - 1)
