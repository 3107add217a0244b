-- `list_bodies::low` meets its contract, by the id. Assumes nothing.
use Rattle.list_bodies.proofs.Ids.{nought, none-0}
use Rattle.dng.specs.List.{vignette_at, constant_at, trim_at, parsed_at}
use Rattle.list_bodies.proofs.low.Goals as goal

pub returns-in-1 : goal.returns-in-1
unfolding parsed_at
returns-in-1 c = rw c.in-1.is c.warp.ensures

pub returns-in-2 : goal.returns-in-2
unfolding parsed_at
returns-in-2 c = rw c.in-2.is

pub returns-in-3 : goal.returns-in-3
unfolding parsed_at vignette_at
returns-in-3 c = rw c.in-3.is c.vignette.ensures

pub returns-in-4 : goal.returns-in-4
unfolding parsed_at constant_at
returns-in-4 c = rw c.in-4.is c.constant.ensures

pub returns-in-5 : goal.returns-in-5
unfolding parsed_at
returns-in-5 c = rw c.in-5.is c.bad_list.ensures

pub returns-in-6 : goal.returns-in-6
unfolding parsed_at trim_at
returns-in-6 c = rw c.in-6.is c.trim.ensures

pub returns-in-7 : goal.returns-in-7
unfolding parsed_at
returns-in-7 c = rw c.in-7.is c.table.ensures

pub returns-in-8 : goal.returns-in-8
unfolding parsed_at
returns-in-8 c = rw c.in-8.is c.polynomial.ensures

pub returns-in-9 : goal.returns-in-9
unfolding parsed_at
returns-in-9 c = rw c.in-9.is c.gain.ensures

pub returns-in_default : goal.returns-in_default
returns-in_default c =
    none-0 _ _ _ _ (nought _ c.requires c.in_default.in_default-own.rest.0.0.0.0.0.0.0.0.1
    c.in_default.in_default-own.rest.0.0.0.0.0.0.0.1 c.in_default.in_default-own.rest.0.0.0.0.0.0.1 c.in_default.in_default-own.rest.0.0.0.0.0.1
    c.in_default.in_default-own.rest.0.0.0.0.1 c.in_default.in_default-own.rest.0.0.0.1 c.in_default.in_default-own.rest.0.0.1 c.in_default.in_default-own.rest.0.1 c.in_default.in_default-own.rest.1)
