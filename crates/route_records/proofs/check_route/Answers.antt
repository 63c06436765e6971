-- `route_records::check_route` meets its contract: the tests in 01's order.
use Rattle.route_records.proofs.RouteTests.{refused, wrong_mark, wrong_counts, rest_cut, rest_fits}
use Rattle.route_records.proofs.check_route.Goals as goal

pub returns-then-not-stands : goal.returns-then-not-stands
returns-then-not-stands c = refused (wrong_mark _ _ _ _ _ c.stands.ensures c.if-not-stands.true) c.at.ensures

pub returns-then-not-counts_fit : goal.returns-then-not-counts_fit
returns-then-not-counts_fit c =
    refused (wrong_counts _ _ _ _ _ c.stands.ensures c.if-not-stands.false c.counts_fit.ensures
    c.if-not-counts_fit.true) c.at-then-not-counts_fit.ensures

pub returns-then-e-s : goal.returns-then-e-s
returns-then-e-s c =
    refused (rest_cut _ _ _ _ _ c.stands.ensures c.if-not-stands.false c.counts_fit.ensures
    c.if-not-counts_fit.false c.if-e-s.true) c.at-then-e-s.ensures

pub returns : goal.returns
returns c =
    rest_fits _ _ _ _ _ c.stands.ensures c.if-not-stands.false c.counts_fit.ensures c.if-not-counts_fit.false
    c.if-e-s.false
