mod QueryMarks
mod RouteKeys
