-- The numbers by those inside.
use Rattle.listing_laws.specs.Numbers.{NumbersRecur}
use Rattle.listing_laws.specs.ContainerNumbers.{ContainersAreCounted}
use Rattle.listing_laws.specs.ContainersRecur.{ContainersRecur}
use Rattle.listing_laws.specs.LeastFirst.{LabelledContainersAreCounted}
use Rattle.listing_laws.proofs.Numbers.{numbers_recur}
use Rattle.listing_laws.proofs.ByComponents.{containers_are_counted}
use Rattle.listing_laws.proofs.ContainersRecur.{containers_recur}
use Rattle.listing_laws.proofs.LeastNumbers.{labelled_containers_are_counted}

pub recur : NumbersRecur
recur = numbers_recur

pub counted : ContainersAreCounted
counted = containers_are_counted

pub containers : ContainersRecur
containers = containers_recur

pub labelled : LabelledContainersAreCounted
labelled = labelled_containers_are_counted
