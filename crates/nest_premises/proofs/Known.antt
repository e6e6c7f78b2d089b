-- What is known of legal nests.
use Rattle.nest_premises.specs.Laws.{LegalTermsCanBeLowered, KindsTellTasks, TasksStand, LaunchesStand, LegalNestsAreUnbroken, ItemBodiesStand, LetsAroundMapsBindNoElement, ElementTestsAgree, ElementTypesPass}

pub record Known : Type 0 where
  pub lowerable : LegalTermsCanBeLowered
  pub kinds : KindsTellTasks
  pub tasks : TasksStand
  pub launches : LaunchesStand
  pub unbroken : LegalNestsAreUnbroken
  pub bodies : ItemBodiesStand
  pub lets : LetsAroundMapsBindNoElement
  pub tests : ElementTestsAgree
  pub elements : ElementTypesPass
