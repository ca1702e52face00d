-- `mesh_told::put_should` meets its contract, by what should stand. Assumes nothing.
use mathlib.Core.Path.{sym, ap}
use Rattle.mesh_told.specs.Told.{should}
use Rattle.text.proofs.Puts.{put_as}
use Rattle.mesh_told.proofs.put_should.Goals as goal

pub returns-in-Name : goal.returns-in-Name
unfolding should
returns-in-Name c = put_as (sym (ap should c.in-Name.is)) c.put_bytes.ensures

pub returns-in-Limit : goal.returns-in-Limit
unfolding should
returns-in-Limit c = put_as (sym (ap should c.in-Limit.is)) c.put_bytes-in-Limit.ensures

pub returns-in-Split : goal.returns-in-Split
unfolding should
returns-in-Split c = put_as (sym (ap should c.in-Split.is)) c.put_bytes-in-Split.ensures

pub returns-in-Point : goal.returns-in-Point
unfolding should
returns-in-Point c = put_as (sym (ap should c.in-Point.is)) c.put_bytes-in-Point.ensures

pub returns-in-Neighbour : goal.returns-in-Neighbour
unfolding should
returns-in-Neighbour c = put_as (sym (ap should c.in-Neighbour.is)) c.put_bytes-in-Neighbour.ensures

pub returns-in-End : goal.returns-in-End
unfolding should
returns-in-End c = put_as (sym (ap should c.in-End.is)) c.put_bytes-in-End.ensures
