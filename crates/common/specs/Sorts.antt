-- Which answer it is, without what it holds: what a picture counts.
use Rattle.definitions.specs.declared.Answer.{Answer}
use Rattle.definitions.specs.declared.Answer.TheVariants.{Outside, Intra, Inherited}
use Rattle.common.specs.declared.counts.Sort.{Sort}
use Rattle.common.specs.declared.counts.Sort.TheVariants.{Inherited as SortInherited, Intra as SortIntra, Outside as SortOutside}

abbrev pub sort_of : Answer → Sort
sort_of Outside = SortOutside
sort_of (Intra b) = SortIntra
sort_of (Inherited b s) = SortInherited
