-- Why block map and rounding are right: the reasons of specs/Why. Assumes nothing.
use Rattle.definitions.specs.Why.{WhyEntire}
use Rattle.definitions.proofs.Under.{under, only_under, formula}
use Rattle.definitions.proofs.Rounding.{floor, rising, word-apart, error, nearest, whole, first-rule, range}
use Rattle.definitions.proofs.Overlap.{overlap}

pub why : WhyEntire
why = record {
  under = under;
  only_under = only_under;
  formula = formula;
  overlap = overlap;
  floor = floor;
  rising = rising;
  apart = word-apart;
  error = error;
  nearest = nearest;
  whole = whole;
  first-rule = first-rule;
  range = range;
}
